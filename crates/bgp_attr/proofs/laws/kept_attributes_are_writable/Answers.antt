use Rattle.bgp_attr.proofs.EachType.{kept-rewritten}
use Rattle.bgp_attr.proofs.laws.kept_attributes_are_writable.Goals as goal

pub returns : goal.returns
returns c = kept-rewritten
