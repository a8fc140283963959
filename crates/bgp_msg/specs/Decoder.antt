-- What a decoder holds, and what it gives.
use Rattle.std.specs.Prelude.{◌≡◌, ◌≤◌, ◌⊎◌, ℕ, Bool, false, not, List, [], ◌∷◌, length, take, Option, option_map, Result, Ok, Err}
use Rattle.bgp_frame.specs.declared.fault.HeadFault.{HeadFault}
use Rattle.bgp_frame.specs.Prelude.{octets_of, IsFrame, Hearer, plain}
use Rattle.bgp_frame.specs.declared.kind.Kind.{Kind}
use Rattle.bgp_frame.specs.declared.kind.Kind.TheVariants as kind
use Rattle.bgp_frame.specs.Frame as frame
use Rattle.bgp_frame.specs.Hearing as hearing
use Rattle.bgp_open.specs.declared.context.Context.{Context}
use Rattle.bgp_msg.specs.declared.outcome.Outcome.{Outcome}
use Rattle.bgp_msg.specs.Outcome.{out_of, of_fault, is_reset}

-- the context, the held octets, and whether a reset was returned
pub record Decoding : Type 0 where
  pub ctx : Context
  pub held : List ℕ
  pub stopped : Bool

abbrev pub fresh : Context → Decoding
fresh ctx = record { ctx = ctx; held = []; stopped = false }

-- the same decoder, holding these octets
abbrev pub holding : Decoding → List ℕ → Decoding
holding old held = record { ctx = old.ctx; held = held; stopped = old.stopped }

-- after an outcome nothing is held, and a reset is the last one
abbrev pub behind : Decoding → Outcome → Decoding
behind old o = record { ctx = old.ctx; held = []; stopped = is_reset o }

-- the outcome of a message, with its length, and of a header with a fault, with length 0
abbrev pub given_by : Decoding → Result frame.Message HeadFault → ℕ × Outcome
given_by d (Ok m) = (length (octets_of m), out_of d.ctx m)
given_by d (Err f) = (0, of_fault f)

-- a decoder consumes octets until it gives a reset
abbrev pub decoder : Hearer Kind Decoding (ℕ × Outcome) (ℕ × Outcome)
decoder = record {
  types = plain;
  held = λ d. d.held;
  holding = holding;
  listens = λ d. not d.stopped;
  comes = given_by;
  actions = λ out. out ∷ [];
  behind = λ d out. behind d out.1;
}

-- it consumes what a framer consumes, and nothing where it is stopped
abbrev pub IsFed : Decoding → List ℕ → ℕ → Decoding → Type 0
IsFed old piece n new = hearing.IsFed decoder old piece n new

-- what a decoder gives next: nothing where the held message is incomplete, else its outcome
abbrev pub IsNext : Decoding → Option (ℕ × Outcome) → Decoding → Type 0
IsNext old found new = hearing.IsJudged decoder old (option_map (λ out. out ∷ []) found) new

-- what a decoder pulls from a piece: the number of octets it consumes, and the outcome of them or of what was held
abbrev pub IsPulled : Decoding → List ℕ → ℕ → Option (ℕ × Outcome) → Decoding → Type 0
IsPulled old piece n found new = hearing.IsPulled decoder old piece n (option_map (λ out. out ∷ []) found) new

-- it consumes what `feed` consumes of the piece, and then gives what `next` gives
abbrev pub IsFedAndNext : Decoding → List ℕ → ℕ → Option (ℕ × Outcome) → Decoding → Type 0
IsFedAndNext old piece n found new = hearing.IsFedAndJudged decoder old piece n (option_map (λ out. out ∷ []) found) new

-- what can need an allocation: a message with routes or capabilities that is held, and doesn't end the session
pub record TakesMemory (old : Decoding) : Type 0 where
  pub message : frame.Message
  pub is_held : IsFrame message old.held
  pub holds_lists : (message.kind ≡ kind.Open) ⊎ (message.kind ≡ kind.Update)
  pub goes_on : is_reset (out_of old.ctx message) ≡ false

-- what can need an allocation where nothing is held: such a message at the beginning of the piece
pub record FrontTakesMemory (old : Decoding) (piece : List ℕ) : Type 0 where
  pub going : old.stopped ≡ false
  pub none_held : old.held ≡ []
  pub n : ℕ
  pub within : n ≤ length piece
  pub takes : TakesMemory (holding old (take n piece))

-- Where a decoder continues after a look: the whole decoder as it was at the look, and whether a reset was found, after which it stops
pub record Going : Type 0 where
  pub from : Decoding
  pub resets : Bool

-- the look was at this decoder, and found this outcome
abbrev pub IsBehind : Decoding → Outcome → Going → Type 0
IsBehind d o next = (next.from ≡ d) × (next.resets ≡ is_reset o)
