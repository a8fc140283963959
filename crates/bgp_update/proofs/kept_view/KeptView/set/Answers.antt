use Rattle.std.proofs.Common.{◌≡◌, ◌<◌, ℕ, not, eqb, length, set, sym, ap, subst, ◌∙◌, arith}
use Rattle.std.specs.Prelude.{slice_index_or}
use Rattle.bgp_update.specs.Prelude.{ArePlaced, kept_with, tlv_placed}
use Rattle.bgp_update.proofs.Placed.{kind-low, more_by, more-placed, seen_also}
use Rattle.bgp_update.proofs.kept_view.KeptView.set.Goals as goal

pub invariant_of-self : goal.invariant_of-self
invariant_of-self c =
    let k = c.args.self.now in
    let low : c.args.kind < length k.places = omega (arith, kind-low c.args.kind c.requires.known, c.are_all_types.ensures) in
    let same : c.args.kind ≡ c.from.result = sym c.from.ensures in
    record { placed = subst (λ (n : ℕ). ArePlaced k.ctx k.has_nlri k.field.now (set k.places n c.args.place)) same (more-placed k.places c.args.kind c.args.place low k.ctx k.has_nlri k.field.now c.requires.placed k.placed) }

pub returns-clause-value : goal.returns-clause-value
returns-clause-value c =
    let k = c.args.self.now in
    let low : c.args.kind < length k.places = omega (arith, kind-low c.args.kind c.requires.known, c.are_all_types.ensures) in
    ap (kept_with k)
    ((λ i j. tlv_placed k.field.now (slice_index_or (set k.places (c.from.ensures i) c.args.place) j 0))
    ∙ (λ i j. more_by k.places c.args.kind c.args.place low (tlv_placed k.field.now) j i))

pub returns-clause-seen : goal.returns-clause-seen
returns-clause-seen c =
    let k = c.args.self.now in
    let low : c.args.kind < length k.places = omega (arith, kind-low c.args.kind c.requires.known, c.are_all_types.ensures) in
    (λ i j. not (eqb (slice_index_or (set k.places (c.from.ensures i) c.args.place) j 0) 0))
    ∙ (λ i j. (more_by k.places c.args.kind c.args.place low (λ n. not (eqb n 0)) j ∙ seen_also (eqb j c.args.kind) c.args.place (slice_index_or k.places j 0) c.requires.some) i)
