-- What is collected of one message, and of one header's fault.
use Rattle.std.specs.Prelude.{◌≡◌, ◌⊎◌, ℕ, Bool, true, false, List, ◌++◌, Option, None, Some, Result, Ok, Err}
use Rattle.bgp_frame.specs.declared.kind.WideKind.{WideKind}
use Rattle.bgp_engine.specs.Below.{Agreed, Context, HeadFault, Kind, Message, MessageIn, Refreshes, octets_of_in}
use Rattle.bgp_engine.specs.declared.class.Class.{Class}
use Rattle.bgp_engine.specs.declared.tally.Tally.{Tally}
use Rattle.bgp_engine.specs.declared.fault.ToolFault.{ToolFault}
use Rattle.bgp_engine.specs.Report.{IsWordless}
use Rattle.bgp_engine.specs.Refreshed.{Refreshed}
use Rattle.bgp_engine.specs.Rules.{Rules, RulesIn}
use Rattle.bgp_engine.specs.Wide.{wide_rules}

-- The rules of a page, and what it writes of the first message of a stream where a separate rule handles it
pub record Plan (K Outcome : Type 0) : Type 0 where
  pub rules : RulesIn K Outcome
  pub first : Message → Option (List ℕ)

-- the first message is like any other
abbrev pub plain : {K Outcome : Type 0} → RulesIn K Outcome → Plan K Outcome
plain rules = record { rules = rules; first = λ m. None }

-- the context that was agreed on, or else this one
abbrev pub context_or : Context → Option Agreed → Context
context_or ctx None = ctx
context_or ctx (Some terms) = terms.context

-- ROUTE-REFRESH as the reader accepts it by what was agreed on, or else so
abbrev pub refreshes_or : Refreshes → Option Agreed → Refreshes
refreshes_or accepted None = accepted
refreshes_or accepted (Some terms) = terms.refresh

-- a page's plan where ROUTE-REFRESH may be a message
abbrev pub with_refresh : {Outcome : Type 0} → Refreshes → Plan Kind Outcome → Plan WideKind (Outcome ⊎ Refreshed)
with_refresh accepted plan = record { rules = wide_rules accepted plan.rules; first = plan.first }

-- the first message was handled by a separate rule, and its text was collected; or there is no such rule for it
abbrev pub TakesFirst : {Outcome : Type 0} → Bool → Plan Kind Outcome → Rules Outcome → Message → List ℕ → List ℕ → Type 0
TakesFirst true plan rules m told_old told_new = (text : List ℕ) × (plan.first m ≡ Some text) × (plan.rules ≡ rules) × (told_new ≡ told_old ++ text)
TakesFirst false plan rules m told_old told_new = (plan.first m ≡ None) × (plan.rules ≡ rules) × (told_new ≡ told_old)

-- the stream ends after it
abbrev pub is_last : Class → Bool
is_last Class.Took = false
is_last Class.Withdrawn = false
is_last Class.Reset = true

module _ {K Outcome : Type 0} (rules : RulesIn K Outcome) (told_old told_new : List ℕ) (place : ℕ) where
  -- a message of this length was judged, and its lines were collected
  pub record Writes (len : ℕ) (m : MessageIn K) (class : Class) : Type 0 where
    pub told : told_new ≡ told_old ++ rules.line place len (octets_of_in rules.types m) (rules.judge.of_message m)
    pub counts : class ≡ rules.class (rules.judge.of_message m)
    pub ends : rules.judge.resets (rules.judge.of_message m) ≡ is_last class

  -- the line of a header's fault was collected
  pub record WritesFault (header : List ℕ) (f : HeadFault) : Type 0 where
    pub told : told_new ≡ told_old ++ rules.line place 0 header (rules.judge.of_fault f)
    pub counts : rules.class (rules.judge.of_fault f) ≡ Class.Reset

-- an engine's own answers: the counts, or where the stream can't be narrowed or cleaned
abbrev pub IsAnswer : Result Tally ToolFault → Type 0
IsAnswer (Ok tally) = Unit {0}
IsAnswer (Err (ToolFault.Narrow n)) = Unit {0}
IsAnswer (Err (ToolFault.Clean n why)) = IsWordless why
IsAnswer (Err _) = ⊥
