use Rattle.bgp_frame.specs.Prelude.{as_it_is, plain, wide_types}
use Rattle.bgp_frame.specs.steps.AreTypes.{plain-are, wide-are}
use Rattle.bgp_frame.proofs.Streams.{HasOneReading-octets}
use Rattle.bgp_frame.proofs.laws.streams_have_one_reading.Goals as goal

pub returns-clause-plain : goal.returns-clause-plain
returns-clause-plain c = λ resets stream octets. HasOneReading-octets plain plain-are _ (as_it_is resets) stream octets

pub returns-clause-wide : goal.returns-clause-wide
returns-clause-wide c = λ g resets stream octets. HasOneReading-octets (wide_types g) (wide-are g) _ (as_it_is resets) stream octets
