use Rattle.bgp_fields.proofs.Prelude.{ℕ, ◌-◌, Bool, List, ◌++◌, length, sym, ap, ap₂, ◌∙◌, arith, list_all, has_octet, none_of_them, PlacedTlv, placed_from}
use Rattle.bgp_fields.proofs.Prelude.{tlvs_of, tlvs_left, rest_left, placed_tlv, marks_behind, cut_mark, field_marks, is_small, field_small, first_asking}
use Rattle.bgp_fields.proofs.Askings.{asking-here, asking-later, first-small}
use Rattle.bgp_fields.proofs.asking.first_asking.Goals as goal

pub field-init : goal.field-init
unfolding field_marks
field-init c =
    let field = c.args.field.now in
    let tlvs = c.new-tlvs.ensures in
    record {
      same = ap₂ (λ (seen : ℕ → Bool) (ps : List PlacedTlv). first_asking c.args.resets (marks_behind c.args.ctx.now c.args.has_nlri seen ps
          ++ cut_mark (length field - length (rest_left c.new-tlvs.result)) (rest_left c.new-tlvs.result))) c.new-seen.ensures tlvs.attributes
          ∙ ap (λ (r : List ℕ). first_asking c.args.resets (marks_behind c.args.ctx.now c.args.has_nlri none_of_them (placed_from 0 (tlvs_of field).0) ++ cut_mark (length field - length r) r)) tlvs.rest;
      small = ap (list_all is_small) tlvs.attributes ∙ field_small field c.requires;
      next = tt;
      finite = tt;
    }

pub attribute_asks-requires : goal.attribute_asks-requires
attribute_asks-requires c =
    let small = first-small (tlvs_left c.field.tlvs) (placed_tlv c.in-Some.tlv) (tlvs_left c.next.new.self) c.in-Some.ensures.steps.0 c.field.invariant.small in
    omega (arith, small.0)

pub returns-then-attribute_asks-clause-value : goal.returns-then-attribute_asks-clause-value
returns-then-attribute_asks-clause-value c =
    sym (asking-here c.args.resets c.args.ctx.now c.args.has_nlri (has_octet c.field.seen) (tlvs_left c.field.tlvs) (placed_tlv c.in-Some.tlv) (tlvs_left c.next.new.self)
    (cut_mark (length c.args.field.now - length (rest_left c.field.tlvs)) (rest_left c.field.tlvs)) c.in-Some.ensures.steps.0 (sym c.attribute_asks.ensures ∙ c.if-attribute_asks.true))
    ∙ c.field.invariant.same

pub returns-then-attribute_asks-clause-small : goal.returns-then-attribute_asks-clause-small
returns-then-attribute_asks-clause-small c =
    let small = first-small (tlvs_left c.field.tlvs) (placed_tlv c.in-Some.tlv) (tlvs_left c.next.new.self) c.in-Some.ensures.steps.0 c.field.invariant.small in
    omega (arith, small.0)

pub field-preserved : goal.field-preserved
field-preserved c =
    let small = first-small (tlvs_left c.field.tlvs) (placed_tlv c.in-Some.tlv) (tlvs_left c.next.new.self) c.in-Some.ensures.steps.0 c.field.invariant.small in
    record {
      same = asking-later c.args.resets c.args.ctx.now c.args.has_nlri (has_octet c.field.seen) (has_octet c.insert.new.self) (tlvs_left c.field.tlvs) (placed_tlv c.in-Some.tlv)
          (tlvs_left c.next.new.self) (length c.args.field.now) (rest_left c.field.tlvs) (rest_left c.next.new.self) c.in-Some.ensures.steps.0
          (sym c.attribute_asks.ensures ∙ c.if-attribute_asks.false) c.insert.ensures c.in-Some.ensures.steps.1
          ∙ c.field.invariant.same;
      small = small.1;
      next = tt;
      finite = tt;
    }
