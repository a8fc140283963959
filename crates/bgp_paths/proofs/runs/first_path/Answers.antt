use Rattle.bgp_wire.proofs.Std.{rules}
use Rattle.bgp_paths.proofs.Routes.{numbers_first, numbers_none}
use Rattle.bgp_paths.proofs.runs.first_path.Goals as goal

pub first_path_prefix-requires : goal.first_path_prefix-requires
first_path_prefix-requires g c = let small = c.requires in search rules

pub returns-in-None : goal.returns-in-None
returns-in-None g c = numbers_none g.row.W c.args.octets.now c.in-None.ensures

pub returns-in-Some : goal.returns-in-Some
returns-in-Some g c = numbers_first g.row.W c.args.octets.now _ c.in-Some.after.now c.in-Some.ensures
