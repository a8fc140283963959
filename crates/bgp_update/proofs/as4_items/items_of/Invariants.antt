use Rattle.std.proofs.Common.{◌≡◌, ◌*◌, ◌≤◌, take}
use Rattle.bgp_update.specs.Prelude.{items_of}
use Rattle.bgp_update.proofs.as4_items.items_of.Given as goal

-- the items of those so far, each of which has no more than a length allows
abbrev pub invariant-path : goal.invariant-path
invariant-path l = (l.items ≡ items_of (take l.segment-index l.segments)) × (l.items ≤ l.segment-index * 18446744073709551615)
