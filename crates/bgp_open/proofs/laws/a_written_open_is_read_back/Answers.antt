use Rattle.bgp_open.specs.Prelude.{canonical}
use Rattle.bgp_open.proofs.Readings.{spelling-reads}
use Rattle.bgp_open.proofs.Spellings.{good-spells}
use Rattle.bgp_open.proofs.laws.a_written_open_is_read_back.Goals as goal

pub returns : goal.returns
returns c = λ o small good. spelling-reads (canonical o) o (good-spells o small good)
