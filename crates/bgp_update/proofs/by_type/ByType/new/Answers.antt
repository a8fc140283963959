use Rattle.std.proofs.Common.{ap}
use Rattle.std.specs.Prelude.{option_map}
use Rattle.bgp_attr.specs.Prelude.{opaque_value}
use Rattle.bgp_update.proofs.ByTypes.{none_at}
use Rattle.bgp_update.proofs.by_type.ByType.new.Goals as goal

pub returns : goal.returns
returns c = λ k. ap (option_map opaque_value) (none_at 256 k)
