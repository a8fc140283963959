-- A stream that is pulled in pieces by a decoder, call after call.
use Rattle.std.specs.Prelude.{ℕ, List}
use Rattle.bgp_frame.specs.declared.end.End.{End}
use Rattle.bgp_frame.specs.Hearing as hearing
use Rattle.bgp_frame.specs.Prelude.{GivesIn, Run, Runs, Way}
use Rattle.bgp_terms.specs.Prelude.{Agreed}
use Rattle.bgp_wide.specs.Outcome.{WideOutcome, rules_in, types_in}
use Rattle.bgp_wide.specs.Decoder.{Decoding, decoder, fresh}

-- a call on a decoder by these terms: what a look finds, and the decoder that continues as it says, or is fed where nothing is found
abbrev pub by_pull : Agreed → Way Decoding (ℕ × WideOutcome)
by_pull terms = hearing.IsPulled (decoder terms)

-- these outcomes are given, call after call on each piece until one consumes nothing and finds nothing
abbrev pub ArePulled : Agreed → List Run → List (ℕ × WideOutcome) → Decoding → Type 0
ArePulled terms runs outcomes d = Runs (by_pull terms) runs (fresh terms) outcomes d

-- they are the stream's
abbrev pub AreOutcomes : Agreed → List ℕ → List (ℕ × WideOutcome) → Type 0
AreOutcomes terms stream outcomes = (e : End) × GivesIn (types_in terms) (rules_in terms) stream outcomes e
