-- What is passed on of a message, in numbers.
use Rattle.std.specs.Prelude.{◌≡◌, ◌-◌, ℕ, Bool, List, [], ◌∷◌, length, None, Result, Ok, Err}
use Rattle.std.specs.List.{filter}
use Rattle.bgp_wire.specs.Prelude.{also, none_of_them}
use Rattle.bgp_frame.specs.Step.{Step}
use Rattle.bgp_frame.specs.Prelude.{ShowsFront, message_in}
use Rattle.bgp_frame.specs.declared.step.Step.TheVariants as step
use Rattle.bgp_open.specs.declared.context.Context.{Context}
use Rattle.bgp_msg.specs.declared.message.Message.{Message}
use Rattle.bgp_msg.specs.declared.outcome.Outcome.{Outcome}
use Rattle.bgp_msg.specs.Prelude.{out_of, of_fault}
use Rattle.bgp_msg.specs.declared.message.Message.TheVariants as message
use Rattle.bgp_msg.specs.declared.outcome.Outcome.TheVariants as outcome
use Rattle.bgp_clean.specs.declared.fault.CleanFault.{CleanFault}
use Rattle.bgp_terms.specs.declared.refreshes.Refreshes.TheVariants as refreshes
use Rattle.bgp_clean.specs.Prelude.{cleaned, cleaned_outcome, no_limits, octets_handed, refuses_in, IsClean, understood}
use Rattle.bgp_clean.specs.declared.fault.CleanFault.TheVariants as fault
use Rattle.ristulva_c.specs.declared.cleaning.ToldCleaned.{ToldCleaned}
use Rattle.ristulva_c.specs.declared.cleaning.TheConstants.{HANDED_ON, ENDS_RESET, ENDS_LATE_OPEN, ENDS_NO_FAMILY}
use Rattle.ristulva_c.specs.declared.status.TheConstants.{INCOMPLETE}
use Rattle.ristulva_c.specs.Judge.{number_of}
use Rattle.ristulva_c.specs.Text as text
use Rattle.ristulva_c.specs.Text.{Writing, IsWritten}

-- a set, and these types
abbrev pub with_types : (ℕ → Bool) → List ℕ → ℕ → Bool
with_types set [] = set
with_types set (kind ∷ kinds) = with_types (also kind set) kinds

abbrev pub types_in : List ℕ → ℕ → Bool
types_in kinds = with_types none_of_them kinds

-- ---- what was changed

-- the attributes of an UPDATE that is accepted that are discarded: each has a note
abbrev pub discarded_in : Outcome → ℕ
discarded_in (outcome.Took m notes) = length notes
discarded_in (outcome.Withdraw routes notes) = 0
discarded_in (outcome.Reset n) = 0

-- its unrecognised attributes that are kept, and are of these types
abbrev pub left_out_in : (ℕ → Bool) → Outcome → ℕ
left_out_in drops (outcome.Took (message.Update u) notes) = length (filter (λ o. drops o.kind) u.attrs.others)
left_out_in drops (outcome.Took (message.Open o) notes) = 0
left_out_in drops (outcome.Took (message.Notification n) notes) = 0
left_out_in drops (outcome.Took message.Keepalive notes) = 0
left_out_in drops (outcome.Withdraw routes notes) = 0
left_out_in drops (outcome.Reset n) = 0

-- the capabilities of an OPEN, but for those that are passed on
abbrev pub caps_left_out_in : Outcome → ℕ
caps_left_out_in (outcome.Took (message.Open o) notes) = length o.caps - length (understood o.caps)
caps_left_out_in (outcome.Took (message.Update u) notes) = 0
caps_left_out_in (outcome.Took (message.Notification n) notes) = 0
caps_left_out_in (outcome.Took message.Keepalive notes) = 0
caps_left_out_in (outcome.Withdraw routes notes) = 0
caps_left_out_in (outcome.Reset n) = 0

-- ---- what is reported of a message, by its length

-- of one that is passed on
abbrev pub handed_told : ℕ → (ℕ → Bool) → Outcome → ToldCleaned
handed_told len drops o = record {
  ends = HANDED_ON;
  verdict = number_of o;
  code = 0;
  subcode = 0;
  len = len;
  discarded = discarded_in o;
  left_out = left_out_in drops o;
  capabilities = caps_left_out_in o;
}

abbrev pub ends_by : CleanFault → ℕ
ends_by (fault.Reset code subcode) = ENDS_RESET
ends_by fault.LateOpen = ENDS_LATE_OPEN
ends_by fault.NoFamily = ENDS_NO_FAMILY

abbrev pub code_by : CleanFault → ℕ
code_by (fault.Reset code subcode) = code
code_by fault.LateOpen = 0
code_by fault.NoFamily = 0

abbrev pub subcode_by : CleanFault → ℕ
subcode_by (fault.Reset code subcode) = subcode
subcode_by fault.LateOpen = 0
subcode_by fault.NoFamily = 0

-- where the stream ends before it, by its verdict
abbrev pub end_told : ℕ → ℕ → CleanFault → ToldCleaned
end_told len verdict why = record {
  ends = ends_by why;
  verdict = verdict;
  code = code_by why;
  subcode = subcode_by why;
  len = len;
  discarded = 0;
  left_out = 0;
  capabilities = 0;
}

-- by its outcome, and what is passed on of it
abbrev pub cleaned_told : ℕ → (ℕ → Bool) → Outcome → Result (List Message) CleanFault → ToldCleaned
cleaned_told len drops o (Ok ns) = handed_told len drops o
cleaned_told len drops o (Err why) = end_told len (number_of o) why

-- the whole messages that are passed on; nothing where the stream ends
abbrev pub handed_octets : Context → Result (List Message) CleanFault → List ℕ
handed_octets ctx (Ok ns) = octets_handed ctx ns
handed_octets ctx (Err why) = []

-- ---- the call

-- what a call has: its status, and the caller's memory before and after it
pub record Cleaning : Type 0 where
  pub writing : Writing
  pub before : ToldCleaned
  pub behind : ToldCleaned

-- nothing is changed
pub record IsLeft (answer : ℕ) (c : Cleaning) : Type 0 where
  pub writing : text.IsLeft answer c.writing
  pub out : c.behind ≡ c.before

-- these octets are written to the buffer where there is room; the report, and their length, are written either way
pub record IsHanded (octets : List ℕ) (told : ToldCleaned) (c : Cleaning) : Type 0 where
  pub writing : IsWritten octets c.writing
  pub out : c.behind ≡ told

-- by what the octets begin with: less than a message; a message; or a header with a fault
abbrev pub Hands : Context → (ℕ → Bool) → Bool → Step → Cleaning → Type 0
Hands ctx drops first step.More c = IsLeft INCOMPLETE c
Hands ctx drops first (step.Frame f) c = IsHanded (handed_octets ctx (cleaned ctx drops (refuses_in ctx no_limits) first (message_in f)))
    (cleaned_told f.len drops (out_of ctx (message_in f)) (cleaned ctx drops (refuses_in ctx no_limits) first (message_in f))) c
Hands ctx drops first (step.Fault f) c = IsHanded [] (cleaned_told 0 drops (of_fault f) (cleaned_outcome refreshes.None drops (refuses_in ctx no_limits) first None (of_fault f))) c

-- what is passed on of a message is accepted in the same context without a note, is passed on unchanged when cleaned again, has no message that is
-- longer, and a receiver learns from it what RFC 7606 has the receiver of the message learn
abbrev pub HandsClean : Context → (ℕ → Bool) → Bool → Step → Type 0
HandsClean ctx drops first step.More = Unit {0}
HandsClean ctx drops first (step.Frame f) = (ns : List Message) → cleaned ctx drops (refuses_in ctx no_limits) first (message_in f) ≡ Ok ns → IsClean ctx drops (refuses_in ctx no_limits) first (message_in f) ns
HandsClean ctx drops first (step.Fault f) = Unit {0}

-- what is passed on of the message that the octets begin with is written, or why the stream ends before it is reported
pub record IsHandedOn (ctx : Context) (drops : ℕ → Bool) (first : Bool) (octets : List ℕ) (c : Cleaning) : Type 0 where
  pub found : Step
  pub shows : ShowsFront octets found
  pub hands : Hands ctx drops first found c
  pub clean : HandsClean ctx drops first found
