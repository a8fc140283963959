use Rattle.std.proofs.Common.{◌≡◌, ◌+◌}
use Rattle.bgp_attr.specs.Prelude.{path_value, segments_left}
use Rattle.bgp_update.specs.Prelude.{items_of}
use Rattle.bgp_update.proofs.view_items.items_of.Given as goal

-- the items so far, and those of what is left, are all
abbrev pub invariant-path : goal.invariant-path
invariant-path l = l.items + items_of (segments_left l.segment-iterator) ≡ items_of (path_value l.fn.path).segments
