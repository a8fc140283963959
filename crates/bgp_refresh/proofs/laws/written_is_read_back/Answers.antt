use Rattle.bgp_refresh.proofs.Written.{read_back}
use Rattle.bgp_refresh.proofs.laws.written_is_read_back.Goals as goal

pub returns : goal.returns
returns c = read_back
