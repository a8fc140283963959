use Rattle.std.proofs.Common.{◌≡◌, ◌++◌, drop}
use Rattle.bgp_update.specs.Prelude.{lead}
use Rattle.bgp_update.proofs.as4_items.add_lead.Given as goal

-- what is collected, and the lead of what is left, are the whole
abbrev pub invariant-path : goal.invariant-path
invariant-path l = l.to.items ++ lead l.left (drop l.segment-index l.segments) ≡ l.initial.to.items ++ lead l.items l.segments
