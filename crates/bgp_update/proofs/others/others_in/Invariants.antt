use Rattle.bgp_wire.proofs.Std.{◌≡◌, [], map, flat_map}
use Rattle.bgp_attr.specs.Prelude.{opaque_value}
use Rattle.bgp_update.specs.Prelude.{attrs_left, as_opaque, rising_behind}
use Rattle.bgp_update.proofs.others.others_in.Given as goal

-- those so far, and those left, are all
abbrev pub invariant-field : goal.invariant-field
invariant-field l =
    rising_behind (map opaque_value l.others) (flat_map as_opaque (attrs_left l.left)) ≡ rising_behind [] (flat_map as_opaque (attrs_left l.fn.kept))
