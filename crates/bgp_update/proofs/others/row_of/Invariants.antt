use Rattle.bgp_wire.proofs.Std.{◌≡◌, ◌++◌, drop, map, flat_map}
use Rattle.bgp_attr.specs.Prelude.{opaque_value}
use Rattle.bgp_update.proofs.ByTypes.{standing}
use Rattle.bgp_update.proofs.others.row_of.Given as goal

-- those so far, and those left, are all
abbrev pub invariant-types : goal.invariant-types
invariant-types l = map opaque_value l.others ++ flat_map standing (drop l.found-index l.place.of_type) ≡ flat_map standing l.place.of_type
