use Rattle.std.proofs.Common.{◌≡◌, ℕ, [], sym, ap, ◌∙◌, arith}
use Rattle.bgp_attr.specs.Prelude.{segments_left}
use Rattle.bgp_update.specs.Prelude.{lead}
use Rattle.bgp_update.proofs.PathItems.{no_lead}
use Rattle.bgp_update.proofs.view_items.next_leading.Goals as goal

pub returns : goal.returns
returns c =
    let zero : c.path.items ≡ 0 = omega (arith, c.path-test.false) in
    let none : lead c.path.items (segments_left c.path.segments) ≡ [] = ap (λ (k : ℕ). lead k (segments_left c.path.segments)) zero ∙ no_lead (segments_left c.path.segments) in
    (sym c.path.invariant ∙ none, none)
