use Rattle.bgp_attr.proofs.EachType.{written-kept}
use Rattle.bgp_attr.proofs.ReadBack.{written-spells}
use Rattle.bgp_attr.proofs.EachType.{canonical-octets}
use Rattle.bgp_attr.proofs.laws.written_attributes_are_kept.Goals as goal

pub returns : goal.returns
returns c = record { octets = canonical-octets; whole = written-spells; kept = written-kept }
