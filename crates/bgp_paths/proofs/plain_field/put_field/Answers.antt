use Rattle.bgp_wire.proofs.Std.{List, ℕ, ◌++◌, length, sym, ap, ap₂, ◌∙◌, append_assoc, arith, flat_map}
use Rattle.std.specs.Borrow.{Bor}
use Rattle.std.proofs.lemmas.List.{length-append}
use Rattle.bgp_attr.specs.Prelude.{PlacedTlv, placed_tlv, rest_left, tlv_at, tlv_value, tlvs_left, tlvs_of}
use Rattle.bgp_paths.specs.Prelude.{plain_field, plain_tlv}
use Rattle.bgp_paths.proofs.Lengths.{left_first, placed_octets, value_within}
use Rattle.bgp_paths.proofs.plain_field.put_field.Goals as goal

pub field-init : goal.field-init
field-init c =
    let f = c.args.families in
    let field = c.args.field.now in
    record {
      whole = ap₂ (λ (ps : List PlacedTlv) (rest : List ℕ). c.args.out.now ++ (flat_map (λ p. plain_tlv f p.tlv) ps ++ rest)) c.new-tlvs.ensures.attributes c.new-tlvs.ensures.rest
          ∙ ap (λ (b : List ℕ). c.args.out.now ++ (b ++ (tlvs_of field).1)) (placed_octets (plain_tlv f) 0 (tlvs_of field).0);
      field = c.new-tlvs.ensures.field;
    }

pub put_tlv-requires-clause-short : goal.put_tlv-requires-clause-short
put_tlv-requires-clause-short c =
    let there = ap (λ (b : List ℕ). tlv_at b c.in-Some.tlv.at) (sym c.field.invariant.field) ∙ c.in-Some.ensures.steps.2.1 in
    omega (arith, c.requires.short, value_within c.args.field.now c.in-Some.tlv.at (tlv_value c.in-Some.tlv) there)

pub put_tlv-requires-clause-room : goal.put_tlv-requires-clause-room
put_tlv-requires-clause-room c =
    let f = c.args.families in
    let later = flat_map (λ p. plain_tlv f p.tlv) (tlvs_left c.next.new.self) ++ rest_left c.field.tlvs in
    let left = ap (λ (ps : List PlacedTlv). flat_map (λ p. plain_tlv f p.tlv) ps ++ rest_left c.field.tlvs) c.in-Some.ensures.steps.0
    ∙ left_first (plain_tlv f) (placed_tlv c.in-Some.tlv) (tlvs_left c.next.new.self) (rest_left c.field.tlvs) in
    omega (
      arith,
      c.requires.room,
      ap length c.field.invariant.whole,
      ap length left,
      length-append c.field.out (flat_map (λ p. plain_tlv f p.tlv) (tlvs_left c.field.tlvs) ++ rest_left c.field.tlvs),
      length-append c.args.out.now (plain_field f c.args.field.now),
      length-append (plain_tlv f (tlv_value c.in-Some.tlv)) later,
    )

pub field-preserved : goal.field-preserved
field-preserved c =
    let f = c.args.families in
    let step = c.in-Some.ensures.steps in
    let later = flat_map (λ p. plain_tlv f p.tlv) (tlvs_left c.next.new.self) ++ rest_left c.field.tlvs in
    let left = ap (λ (ps : List PlacedTlv). flat_map (λ p. plain_tlv f p.tlv) ps ++ rest_left c.field.tlvs) step.0
    ∙ left_first (plain_tlv f) (placed_tlv c.in-Some.tlv) (tlvs_left c.next.new.self) (rest_left c.field.tlvs) in
    record {
      whole = ap₂ (λ (b rest : List ℕ). b ++ (flat_map (λ p. plain_tlv f p.tlv) (tlvs_left c.next.new.self) ++ rest)) c.put_tlv.ensures (sym step.1)
          ∙ append_assoc c.field.out (plain_tlv f (tlv_value c.in-Some.tlv)) later ∙ ap (λ (b : List ℕ). c.field.out ++ b) (sym left) ∙ c.field.invariant.whole;
      field = ap (λ (octets : Bor (List ℕ)). octets.now) step.2.0 ∙ c.field.invariant.field;
    }

pub put-requires : goal.put-requires
put-requires c =
    let f = c.args.families in
    let none = c.in_default.ensures.steps in
    let tail = c.octets_of_tail.ensures (rest_left c.next.new.self) c.tail.ensures ∙ sym none.1 in
    omega (
      arith,
      c.requires.room,
      ap length c.field.invariant.whole,
      ap length tail,
      length-append c.field.out (flat_map (λ p. plain_tlv f p.tlv) (tlvs_left c.field.tlvs) ++ rest_left c.field.tlvs),
      length-append c.args.out.now (plain_field f c.args.field.now),
      ap (λ (ps : List PlacedTlv). length (flat_map (λ p. plain_tlv f p.tlv) ps ++ rest_left c.field.tlvs)) none.0.0,
    )

pub returns : goal.returns
returns c =
    let f = c.args.families in
    let none = c.in_default.ensures.steps in
    let tail = c.octets_of_tail.ensures (rest_left c.next.new.self) c.tail.ensures ∙ sym none.1 in
    c.put.ensures ∙ ap (λ (b : List ℕ). c.field.out ++ b) (tail ∙ ap (λ (ps : List PlacedTlv). flat_map (λ p. plain_tlv f p.tlv) ps ++ rest_left c.field.tlvs) (sym none.0.0))
    ∙ c.field.invariant.whole
