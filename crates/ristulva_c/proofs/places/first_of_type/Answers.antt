use Rattle.ristulva_c.proofs.Below.{◌==◌, cond, Some, sym, ap, ◌∙◌, find, eq-eqb, PlacedTlv, tlvs_left, placed_tlv}
use Rattle.ristulva_c.proofs.FirstPlaces.{found_lies}
use Rattle.ristulva_c.proofs.places.first_of_type.Goals as goal

pub returns-then-tlv-kind-clause-within : goal.returns-then-tlv-kind-clause-within
returns-then-tlv-kind-clause-within c =
    let t = c.in-Some.tlv in
    let test = λ (q : PlacedTlv). q.tlv.kind == c.args.kind in
    let lies = found_lies test c.args.field.now (placed_tlv t)
    (sym c.field.invariant ∙ ap (find test) c.in-Some.ensures.steps.0
    ∙ ap (λ b. cond b (Some (placed_tlv t)) (find test (tlvs_left c.next.new.self))) (eq-eqb t.kind c.args.kind c.if-tlv-kind.true)) in
    (lies.within, lies.longer)
