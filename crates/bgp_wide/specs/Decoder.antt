-- What a decoder by terms holds, and what it gives.
use Rattle.std.specs.Prelude.{◌≡◌, ℕ, Bool, false, not, List, [], ◌∷◌, length, Option, option_map, Result, Ok, Err}
use Rattle.bgp_frame.specs.declared.fault.HeadFault.{HeadFault}
use Rattle.bgp_frame.specs.declared.kind.WideKind.{WideKind}
use Rattle.bgp_frame.specs.Prelude.{Hearer, MessageIn, octets_of_in}
use Rattle.bgp_frame.specs.Hearing as hearing
use Rattle.bgp_terms.specs.Prelude.{Agreed}
use Rattle.bgp_wide.specs.Outcome.{WideOutcome, fault_in, out_in, resets_in, types_in}

-- the terms, the held octets, and whether a reset was returned
pub record Decoding : Type 0 where
  pub terms : Agreed
  pub held : List ℕ
  pub stopped : Bool

abbrev pub fresh : Agreed → Decoding
fresh terms = record { terms = terms; held = []; stopped = false }

-- the same decoder, holding these octets
abbrev pub holding : Decoding → List ℕ → Decoding
holding old held = record { terms = old.terms; held = held; stopped = old.stopped }

-- after an outcome nothing is held, and a reset is the last one
abbrev pub behind : Decoding → WideOutcome → Decoding
behind old o = record { terms = old.terms; held = []; stopped = resets_in o }

-- the outcome of a message, with its length, and of a header with a fault, with length 0
abbrev pub given_by : Decoding → Result (MessageIn WideKind) HeadFault → ℕ × WideOutcome
given_by d (Ok m) = (length (octets_of_in (types_in d.terms) m), out_in d.terms m)
given_by d (Err f) = (0, fault_in f)

-- a decoder consumes octets until it gives a reset
abbrev pub decoder : Agreed → Hearer WideKind Decoding (ℕ × WideOutcome) (ℕ × WideOutcome)
decoder terms = record {
  types = types_in terms;
  held = λ d. d.held;
  holding = holding;
  listens = λ d. not d.stopped;
  comes = given_by;
  actions = λ out. out ∷ [];
  behind = λ d out. behind d out.1;
}

-- it consumes what a framer consumes, and nothing where it is stopped
abbrev pub IsFed : Decoding → List ℕ → ℕ → Decoding → Type 0
IsFed old piece n new = hearing.IsFed (decoder old.terms) old piece n new

-- what a decoder pulls from a piece: the number of octets it consumes, and the outcome of them or of what was held
abbrev pub IsPulled : Decoding → List ℕ → ℕ → Option (ℕ × WideOutcome) → Decoding → Type 0
IsPulled old piece n found new = hearing.IsPulled (decoder old.terms) old piece n (option_map (λ out. out ∷ []) found) new

-- Where a decoder continues after a look: the whole decoder as it was at the look, and whether a reset was found, after which it stops
pub record Going : Type 0 where
  pub from : Decoding
  pub resets : Bool

-- the look was at this decoder, and found this outcome
abbrev pub IsBehind : Decoding → WideOutcome → Going → Type 0
IsBehind d o next = (next.from ≡ d) × (next.resets ≡ resets_in o)
