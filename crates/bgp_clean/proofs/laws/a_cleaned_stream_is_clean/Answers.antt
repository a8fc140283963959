use Rattle.bgp_clean.proofs.Streams.{stream-clean}
use Rattle.bgp_clean.proofs.laws.a_cleaned_stream_is_clean.Goals as goal

pub returns : goal.returns
returns c = stream-clean
