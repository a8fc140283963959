use Rattle.std.proofs.Common.{arith}
use Rattle.bgp_update.specs.Prelude.{parts_value}
use Rattle.bgp_update.proofs.PartLengths.{parts_within}
use Rattle.bgp_update.proofs.end_of_rib.ended_family.Goals as goal

pub family_of_parts-requires : goal.family_of_parts-requires
family_of_parts-requires c = omega (arith, parts_within c.args.body.now (parts_value c.in-Some.parts) c.in-Some.ensures c.requires)
