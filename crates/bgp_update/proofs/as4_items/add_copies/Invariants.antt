use Rattle.std.proofs.Common.{◌≡◌, ◌++◌, take}
use Rattle.bgp_update.proofs.as4_items.add_copies.Given as goal

-- those so far are copied
abbrev pub invariant-path : goal.invariant-path
invariant-path l = l.to.items ≡ l.initial.to.items ++ take l.segment-index l.segments
