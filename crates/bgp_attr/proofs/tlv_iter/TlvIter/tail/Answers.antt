use Rattle.bgp_wire.proofs.Std.{List, ℕ, [], ◌≡◌, length, drop, eqb-true, refl, sym, ap, ◌∙◌, nil_from_length}
use Rattle.bgp_wire.specs.Prelude.{pieces}
use Rattle.bgp_attr.specs.Prelude.{one_tlv, tlvs_of}
use Rattle.bgp_attr.proofs.tlv_iter.TlvIter.tail.Goals as goal

none_left : (b : List ℕ) → b ≡ [] → (tlvs_of b).1 ≡ []
unfolding one_tlv pieces
none_left b e = ap (λ (octets : List ℕ). (tlvs_of octets).1) e ∙ refl

pub returns-then-is_empty : goal.returns-then-is_empty
returns-then-is_empty c =
    none_left (drop c.args.self.now.at c.args.self.now.field.now)
    (sym c.split_at.ensures.back ∙ nil_from_length c.split_at.result.1.now (eqb-true (length c.split_at.result.1.now) 0 (sym c.is_empty.ensures ∙ c.if-is_empty.true)))
