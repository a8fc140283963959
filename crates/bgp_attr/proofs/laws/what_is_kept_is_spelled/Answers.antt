use Rattle.bgp_attr.proofs.EachType.{kept-spells, kept-only}
use Rattle.bgp_attr.proofs.laws.what_is_kept_is_spelled.Goals as goal

pub returns : goal.returns
returns c = record { spelled = kept-spells; only = kept-only }
