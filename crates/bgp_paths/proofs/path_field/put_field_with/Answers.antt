use Rattle.bgp_wire.proofs.Std.{List, ℕ, ◌++◌, length, sym, ap, ap₂, ◌∙◌, append_assoc, arith, flat_map, on_ok_weaker, on_err_weaker, err_from_is_err_and}
use Rattle.std.proofs.lemmas.List.{length-append}
use Rattle.bgp_attr.specs.Prelude.{PlacedTlv, placed_tlv, rest_left, tlv_value, tlvs_left, tlvs_of}
use Rattle.bgp_paths.specs.Prelude.{field_numbers, field_with, octets_with}
use Rattle.bgp_paths.proofs.Lengths.{left_first, placed_octets}
use Rattle.bgp_paths.proofs.path_field.put_field_with.Goals as goal

pub field-init : goal.field-init
field-init c =
    let g = octets_with c.args.families (field_numbers c.args.numbers.now) in
    let field = c.args.field.now in
    ap₂ (λ (ps : List PlacedTlv) (rest : List ℕ). c.args.out.now ++ (flat_map (λ p. g p.tlv) ps ++ rest)) c.new-tlvs.ensures.attributes c.new-tlvs.ensures.rest
    ∙ ap (λ (b : List ℕ). c.args.out.now ++ (b ++ (tlvs_of field).1)) (placed_octets g 0 (tlvs_of field).0)

pub field-preserved : goal.field-preserved
field-preserved c =
    let g = octets_with c.args.families (field_numbers c.args.numbers.now) in
    let step = c.in-Some.ensures.steps in
    let later = flat_map (λ p. g p.tlv) (tlvs_left c.next.new.self) ++ rest_left c.field.tlvs in
    let left = ap (λ (ps : List PlacedTlv). flat_map (λ p. g p.tlv) ps ++ rest_left c.field.tlvs) step.0
    ∙ left_first g (placed_tlv c.in-Some.tlv) (tlvs_left c.next.new.self) (rest_left c.field.tlvs) in
    ap₂ (λ (b rest : List ℕ). b ++ (flat_map (λ p. g p.tlv) (tlvs_left c.next.new.self) ++ rest)) c.in_ok-put_tlv_with.ensures.ok (sym step.1)
    ∙ append_assoc c.field.out (g (tlv_value c.in-Some.tlv)) later ∙ ap (λ (b : List ℕ). c.field.out ++ b) (sym left) ∙ c.field.invariant

pub returns-in_err-put_tlv_with-clause-full : goal.returns-in_err-put_tlv_with-clause-full
returns-in_err-put_tlv_with-clause-full c =
    let g = octets_with c.args.families (field_numbers c.args.numbers.now) in
    let p = err_from_is_err_and c.from_residual.result c.from_residual.ensures.1 in
    let step = c.in-Some.ensures.steps in
    let later = flat_map (λ p. g p.tlv) (tlvs_left c.next.new.self) ++ rest_left c.field.tlvs in
    let left = ap (λ (ps : List PlacedTlv). flat_map (λ p. g p.tlv) ps ++ rest_left c.field.tlvs) step.0
    ∙ left_first g (placed_tlv c.in-Some.tlv) (tlvs_left c.next.new.self) (rest_left c.field.tlvs) in
    rw p.1 (omega (
      arith,
      c.in_err-put_tlv_with.ensures.full,
      ap length left,
      length-append (g (tlv_value c.in-Some.tlv)) later,
      ap length c.field.invariant,
      length-append c.field.out (flat_map (λ p. g p.tlv) (tlvs_left c.field.tlvs) ++ rest_left c.field.tlvs),
      length-append c.args.out.now (field_with c.args.families (field_numbers c.args.numbers.now) c.args.field.now),
    ))

pub returns-clause-ok : goal.returns-clause-ok
returns-clause-ok c =
    let g = octets_with c.args.families (field_numbers c.args.numbers.now) in
    let none = c.in_default.ensures.steps in
    let tail = c.octets_of_tail.ensures (rest_left c.next.new.self) c.tail.ensures ∙ sym none.1 in
    on_ok_weaker c.put.result (λ e. e ∙ ap (λ (b : List ℕ). c.field.out ++ b) (tail ∙ ap (λ (ps : List PlacedTlv). flat_map (λ p. g p.tlv) ps ++ rest_left c.field.tlvs) (sym none.0.0)) ∙ c.field.invariant) c.put.ensures.ok

pub returns-clause-full : goal.returns-clause-full
returns-clause-full c =
    let g = octets_with c.args.families (field_numbers c.args.numbers.now) in
    let none = c.in_default.ensures.steps in
    let tail = c.octets_of_tail.ensures (rest_left c.next.new.self) c.tail.ensures ∙ sym none.1 in
    on_err_weaker c.put.result (λ lt. omega (
      arith,
      lt,
      ap length (tail ∙ ap (λ (ps : List PlacedTlv). flat_map (λ p. g p.tlv) ps ++ rest_left c.field.tlvs) (sym none.0.0)),
      ap length c.field.invariant,
      length-append c.field.out (flat_map (λ p. g p.tlv) (tlvs_left c.field.tlvs) ++ rest_left c.field.tlvs),
      length-append c.args.out.now (field_with c.args.families (field_numbers c.args.numbers.now) c.args.field.now),
    )) c.put.ensures.full
