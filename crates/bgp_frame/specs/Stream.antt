-- A stream of octets, the outcomes of its messages, and how it ends (RFC 4271, sections 4.1 and 6).
use Rattle.std.specs.Prelude.{◌≡◌, ℕ, ◌≤◌, Bool, true, false, List, [], ◌∷◌, ◌++◌, length, map, Result, Ok, Err}
use Rattle.std.specs.List.{AllByRecursion}
use Rattle.bgp_wire.specs.Prelude.{Row}
use Rattle.bgp_frame.specs.declared.end.End.{End}
use Rattle.bgp_frame.specs.declared.end.End.TheVariants as end
use Rattle.bgp_frame.specs.declared.fault.HeadFault.{HeadFault}
use Rattle.bgp_frame.specs.declared.kind.Kind.{Kind}
use Rattle.bgp_frame.specs.Types.{Types}
use Rattle.bgp_frame.specs.Kind.{plain}
use Rattle.bgp_frame.specs.Head.{head_of_in}
use Rattle.bgp_frame.specs.Frame.{Message, MessageIn, octets_of_in, IsFrameIn, WaitsIn}

-- how messages and faults are judged: the outcome of each, and which outcomes end the stream
pub record StreamRulesIn (K Outcome : Type 0) : Type 0 where
  pub of_message : MessageIn K → Outcome
  pub of_fault : HeadFault → Outcome
  pub resets : Outcome → Bool

module _ {K Outcome : Type 0} (rules : StreamRulesIn K Outcome) where
  -- the stream goes on after the message
  abbrev pub GoesOn : MessageIn K → Type 0
  GoesOn m = rules.resets (rules.of_message m) ≡ false

  -- all messages but the last let the stream go on
  pub record EndsAtReset (messages : List (MessageIn K)) : Type 0 where
    pub earlier : List (MessageIn K)
    pub last : MessageIn K
    pub in_order : messages ≡ earlier ++ last ∷ []
    pub go_on : AllByRecursion GoesOn earlier
    pub reset : rules.resets (rules.of_message last) ≡ true

module _ {K Outcome : Type 0} (ty : Types K) (rules : StreamRulesIn K Outcome) where
  -- a message's length, and its outcome
  abbrev pub outcome_of_in : MessageIn K → ℕ × Outcome
  outcome_of_in m = (length (octets_of_in ty m), rules.of_message m)

  -- all of the messages let the stream go on, and the header after them has a fault
  pub record EndsAtHead (messages : List (MessageIn K)) (rest : List ℕ) (outcomes : List (ℕ × Outcome)) : Type 0 where
    pub go_on : AllByRecursion (GoesOn rules) messages
    pub has_header : 19 ≤ length rest
    pub fault : HeadFault
    pub faulty : head_of_in ty rest ≡ Err fault
    pub told : outcomes ≡ map outcome_of_in messages ++ (0, rules.of_fault fault) ∷ []

  -- all of the messages let the stream go on, and n octets of an incomplete message follow
  pub record EndsWaiting (messages : List (MessageIn K)) (rest : List ℕ) (outcomes : List (ℕ × Outcome)) (n : ℕ) : Type 0 where
    pub go_on : AllByRecursion (GoesOn rules) messages
    pub waits : WaitsIn ty rest
    pub count : n ≡ length rest
    pub told : outcomes ≡ map outcome_of_in messages

  abbrev pub EndsByIn : List (MessageIn K) → List ℕ → List (ℕ × Outcome) → End → Type 0
  EndsByIn messages rest outcomes end.Reset = EndsAtReset rules messages × (outcomes ≡ map outcome_of_in messages)
  EndsByIn messages rest outcomes end.Head = EndsAtHead messages rest outcomes
  EndsByIn messages rest outcomes (end.Wait n) = EndsWaiting messages rest outcomes n

  -- the stream is messages and a rest: these are its outcomes, and so it ends
  pub record GivesIn (stream : List ℕ) (outcomes : List (ℕ × Outcome)) (end_of : End) : Type 0 where
    pub messages : List (MessageIn K)
    pub row : List ℕ
    pub rest : List ℕ
    pub whole : stream ≡ row ++ rest
    pub frames : Row (IsFrameIn ty) messages row
    pub ends : EndsByIn messages rest outcomes end_of

  -- one list of outcomes and one end are the stream's, and no others
  pub record HasOneReadingIn (stream : List ℕ) : Type 0 where
    pub outcomes : List (ℕ × Outcome)
    pub end_of : End
    pub gives : GivesIn stream outcomes end_of
    pub only : (others : List (ℕ × Outcome)) (other : End) → GivesIn stream others other → (others ≡ outcomes) × (other ≡ end_of)

-- the rules whose outcome is the message or the fault itself: the outcomes by other rules are a function of it
abbrev pub as_it_is : {K : Type 0} → (Result (MessageIn K) HeadFault → Bool) → StreamRulesIn K (Result (MessageIn K) HeadFault)
as_it_is resets = record { of_message = λ m. Ok m; of_fault = λ f. Err f; resets = resets }

-- ---- by the types of RFC 4271

abbrev pub StreamRules : Type 0 → Type 0
StreamRules Outcome = StreamRulesIn Kind Outcome

abbrev pub outcome_of : {Outcome : Type 0} → StreamRules Outcome → Message → ℕ × Outcome
outcome_of = outcome_of_in plain

abbrev pub EndsBy : {Outcome : Type 0} → StreamRules Outcome → List Message → List ℕ → List (ℕ × Outcome) → End → Type 0
EndsBy = EndsByIn plain

abbrev pub Gives : {Outcome : Type 0} → StreamRules Outcome → List ℕ → List (ℕ × Outcome) → End → Type 0
Gives = GivesIn plain

abbrev pub HasOneReading : {Outcome : Type 0} → StreamRules Outcome → List ℕ → Type 0
HasOneReading = HasOneReadingIn plain
