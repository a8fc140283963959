-- The routes with path identifiers that an iterator has left.
use Rattle.std.specs.Prelude.{ℕ, List}
use Rattle.bgp_paths.specs.declared.path_iter.PathIter.{PathIter}
use Rattle.bgp_paths.specs.Route.{PathPrefixValue, path_prefixes}

-- those not yet returned
abbrev pub paths_left : {width : ℕ} → PathIter width → List PathPrefixValue
paths_left {width = width} it = path_prefixes width it.rest.now
