use Rattle.bgp_wire.proofs.Std.{◌≡◌, [], List, length, flat_map}
use Rattle.bgp_attr.specs.declared.opaque.Opaque.{Opaque}
use Rattle.bgp_update.specs.Prelude.{IsByType, attrs_left, as_opaque, rising_behind}
use Rattle.bgp_update.proofs.by_type.ByType.fill.Given as goal

-- those so far are stored, and with those left they are all
abbrev pub invariant-field : goal.invariant-field
invariant-field l =
    (there : List Opaque) × IsByType l.self there × (rising_behind there (flat_map as_opaque (attrs_left l.left)) ≡ rising_behind [] (flat_map as_opaque (attrs_left l.fn.kept)))

abbrev pub decreases-field : goal.decreases-field
decreases-field l = length (attrs_left l.left)
