use Rattle.bgp_wire.proofs.Std.{◌≡◌, [], rules}
use Rattle.bgp_wire.proofs.Walks.{first_then, no_more}
use Rattle.bgp_paths.specs.Prelude.{PathPrefixValue, IsPathPrefix, one_path_prefix, path_prefixes}
use Rattle.bgp_paths.proofs.Routes.{IsPathPrefix-reads}
use Rattle.bgp_paths.proofs.path_iter.PathIterIterator.next.Goals as goal

pub returns-in-None-clause-steps : goal.returns-in-None-clause-steps
returns-in-None-clause-steps g c =
    let none : path_prefixes g.row.W c.args.self.now.rest.now ≡ [] = no_more PathPrefixValue (IsPathPrefix g.row.W) (one_path_prefix g.row.W) (IsPathPrefix-reads g.row.W) c.args.self.now.rest.now c.in-None.ensures in
    (none, none)

pub returns-in-Some-clause-steps : goal.returns-in-Some-clause-steps
returns-in-Some-clause-steps g c =
    first_then PathPrefixValue (IsPathPrefix g.row.W) (one_path_prefix g.row.W) (IsPathPrefix-reads g.row.W) c.args.self.now.rest.now _ c.in-Some.after.now c.in-Some.ensures

pub returns-in-Some-clause-goes : goal.returns-in-Some-clause-goes
returns-in-Some-clause-goes g c =
    let more = first_then PathPrefixValue (IsPathPrefix g.row.W) (one_path_prefix g.row.W) (IsPathPrefix-reads g.row.W) c.args.self.now.rest.now _ c.in-Some.after.now c.in-Some.ensures in
    search rules
