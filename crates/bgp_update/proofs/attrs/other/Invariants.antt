use Rattle.bgp_wire.proofs.Std.{◌≡◌, eqb, drop, find}
use Rattle.bgp_update.proofs.attrs.other.Given as goal

-- none of those so far is of the type
abbrev pub invariant-others : goal.invariant-others
invariant-others l = find (λ o. eqb o.kind l.kind) l.others ≡ find (λ o. eqb o.kind l.kind) (drop l.other-index l.others)
