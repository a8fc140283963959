use Rattle.bgp_wire.proofs.Walks.{not_more}
use Rattle.bgp_paths.specs.Prelude.{PathPrefixValue, IsPathPrefix, one_path_prefix}
use Rattle.bgp_paths.proofs.Routes.{IsPathPrefix-reads}
use Rattle.bgp_paths.proofs.path_iter.PathIterIterator.size_hint.Goals as goal

pub returns-clause-upper : goal.returns-clause-upper
returns-clause-upper g c = (tt, not_more PathPrefixValue (IsPathPrefix g.row.W) (one_path_prefix g.row.W) (IsPathPrefix-reads g.row.W) c.args.self.now.rest.now)
