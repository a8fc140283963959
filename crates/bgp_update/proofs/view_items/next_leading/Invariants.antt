use Rattle.std.proofs.Common.{◌≡◌, length}
use Rattle.bgp_attr.specs.Prelude.{segments_left}
use Rattle.bgp_update.specs.Prelude.{lead}
use Rattle.bgp_update.proofs.view_items.next_leading.Given as goal

-- what is left has the same first items
abbrev pub invariant-path : goal.invariant-path
invariant-path l = lead l.items (segments_left l.segments) ≡ lead l.initial.items (segments_left l.initial.segments)

abbrev pub decreases-path : goal.decreases-path
decreases-path l = length (segments_left l.segments)
