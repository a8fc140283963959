-- What a look at a decoder and a piece finds.
use Rattle.std.specs.Prelude.{ℕ, Bool, List, [], Option, None, Some}
use Rattle.bgp_msg.specs.declared.look.Look.{Look}
use Rattle.bgp_msg.specs.declared.look.Look.TheVariants as look
use Rattle.bgp_msg.specs.declared.outcome.Outcome.{Outcome}
use Rattle.bgp_msg.specs.Outcome.{of_fault}
use Rattle.bgp_msg.specs.OutcomeView.{outcome_value}
use Rattle.bgp_msg.specs.Decoder.{Decoding, Going, behind, IsBehind, IsFed, IsPulled}

-- a decoder after the message that it held or that the piece began with: it is stopped where that is a reset
abbrev pub gone : Decoding → Bool → Decoding
gone d resets = record { ctx = d.ctx; held = []; stopped = resets }

-- The look finds what a pull gives: the number of octets consumed, the outcome, and where the decoder continues. Where it finds nothing, a
-- pull does what a feed does.
abbrev pub IsLook : Decoding → List ℕ → Look → Type 0
IsLook d piece (look.Message n k v next) = IsPulled d piece n (Some (k, outcome_value v)) (behind d (outcome_value v)) × IsBehind d (outcome_value v) next
IsLook d piece (look.Fault n f next) = IsPulled d piece n (Some (0, of_fault f)) (behind d (of_fault f)) × IsBehind d (of_fault f) next
IsLook d piece look.Feed = (n : ℕ) (new : Decoding) → IsFed d piece n new → IsPulled d piece n None new

-- the same as an owned value, the header with a fault as a message of length 0
abbrev pub IsOwnLook : Decoding → List ℕ → Option (ℕ × ℕ × Going × Outcome) → Type 0
IsOwnLook d piece (Some (n, k, next, o)) = IsPulled d piece n (Some (k, o)) (behind d o) × IsBehind d o next
IsOwnLook d piece None = (n : ℕ) (new : Decoding) → IsFed d piece n new → IsPulled d piece n None new
