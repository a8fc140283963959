use Rattle.bgp_frame.proofs.Streams.{HasOneReading-octets}
use Rattle.bgp_msg.specs.declared.outcome.Outcome.{Outcome}
use Rattle.bgp_msg.specs.Prelude.{stream_rules}
use Rattle.bgp_msg.proofs.laws.streams_have_one_reading.Goals as goal
use Rattle.bgp_frame.specs.Kind.{plain}
use Rattle.bgp_frame.specs.steps.AreTypes.{plain-are}

pub returns : goal.returns
returns c = λ ctx stream octets. HasOneReading-octets plain plain-are Outcome (stream_rules ctx) stream octets
