use Rattle.bgp_frame.proofs.Streams.{HasOneReading-octets}
use Rattle.bgp_frame.specs.steps.AreTypes.{wide-are}
use Rattle.bgp_wide.specs.Prelude.{WideOutcome, grammar_of, rules_in, types_in}
use Rattle.bgp_wide.proofs.laws.streams_have_one_reading.Goals as goal

pub returns : goal.returns
returns c = λ terms stream octets. HasOneReading-octets (types_in terms) (wide-are (grammar_of terms.refresh)) WideOutcome (rules_in terms) stream octets
