-- What a look at a decoder and a piece finds.
use Rattle.std.specs.Prelude.{ℕ, Bool, List, [], None, Some}
use Rattle.bgp_wide.specs.declared.look.WideLook.{WideLook}
use Rattle.bgp_wide.specs.declared.look.WideLook.TheVariants as look
use Rattle.bgp_wide.specs.Outcome.{fault_in}
use Rattle.bgp_wide.specs.OutcomeView.{wide_value}
use Rattle.bgp_wide.specs.Decoder.{Decoding, behind, IsBehind, IsFed, IsPulled}

-- a decoder after the message that it held or that the piece began with: it is stopped where that is a reset
abbrev pub gone : Decoding → Bool → Decoding
gone d resets = record { terms = d.terms; held = []; stopped = resets }

-- The look finds what a pull gives: the number of octets consumed, the outcome, and where the decoder continues. Where it finds nothing, a
-- pull does what a feed does.
abbrev pub IsLook : Decoding → List ℕ → WideLook → Type 0
IsLook d piece (look.Message n k v next) = IsPulled d piece n (Some (k, wide_value v)) (behind d (wide_value v)) × IsBehind d (wide_value v) next
IsLook d piece (look.Fault n f next) = IsPulled d piece n (Some (0, fault_in f)) (behind d (fault_in f)) × IsBehind d (fault_in f) next
IsLook d piece look.Feed = (n : ℕ) (new : Decoding) → IsFed d piece n new → IsPulled d piece n None new
