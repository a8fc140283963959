use Rattle.bgp_refresh.proofs.Written.{written_frame}
use Rattle.bgp_refresh.proofs.laws.written_is_a_frame.Goals as goal

pub returns : goal.returns
returns c = written_frame
