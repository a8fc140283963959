-- What is printed: a message, or a header with a fault, and its outcome.
use Rattle.bgp_engine.specs.Below.{List, ℕ, Option, Some, Result, Ok, Err, HeadFault, Message, StreamRules, Context, Outcome, is_reset, of_fault, out_of}
use Rattle.bgp_engine.specs.Below.{Fault, Span, header_fault, header_place, reset_fault, reset_place}

-- a message or a header with a fault, and its outcome
pub record Heard : Type 0 where
  pub front : Result Message HeadFault
  pub outcome : Outcome

-- outcomes are those that `bgp_msg` has
abbrev pub heard_in : Context → StreamRules Heard
heard_in ctx = record {
  of_message = λ m. record { front = Ok m; outcome = out_of ctx m };
  of_fault = λ f. record { front = Err f; outcome = of_fault f };
  resets = λ h. is_reset h.outcome;
}

-- the octets of a message, or of the header of one, for which it is answered by a reset
abbrev pub place_in : Context → List ℕ → Result Message HeadFault → Option Span
place_in ctx octets (Ok m) = reset_place ctx m
place_in ctx octets (Err f) = Some (header_place octets f)

-- why a message, or the header of one, is answered by a reset
abbrev pub fault_in : Context → List ℕ → Result Message HeadFault → Option Fault
fault_in ctx octets (Ok m) = reset_fault ctx m
fault_in ctx octets (Err f) = Some (header_fault octets f)
