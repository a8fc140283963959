use Rattle.std.proofs.Common.{◌≡◌, ◌+◌, suc, refl, Option, Some, sym, ap, subst, ◌∙◌, arith}
use Rattle.bgp_attr.specs.Prelude.{TlvValue, tlv_value}
use Rattle.bgp_update.specs.Prelude.{kept_tlv, kept_with, placed_also, tlv_placed, IsKeptAs}
use Rattle.bgp_update.proofs.Placed.{first_none, known_more, placed_first}
use Rattle.bgp_update.proofs.kept_view.KeptView.put.Goals as goal

pub set-requires : goal.set-requires
set-requires c =
    let k = c.args.self.now in
    let t : TlvValue = tlv_value c.args.tlv.now in
    let some-same : (t s : TlvValue) → Some t ≡ Some s → t ≡ s = λ t s e. cc in
    record {
      known = c.requires.known;
      first = c.requires.first;
      some = omega arith;
      placed = λ s is.
          let one : c.args.tlv.now.at + 1 ≡ suc c.args.tlv.now.at = omega arith in
          let same : t ≡ s = some-same t s (sym c.requires.there ∙ ap (tlv_placed k.field.now) (sym one) ∙ is) in
          subst (IsKeptAs k.ctx k.has_nlri c.args.tlv.now.kind) same (refl, c.requires.known, c.requires.kept);
    }

pub returns-clause-adds : goal.returns-clause-adds
returns-clause-adds c =
    let k = c.args.self.now in
    let t : TlvValue = tlv_value c.args.tlv.now in
    let one : c.args.tlv.now.at + 1 ≡ suc c.args.tlv.now.at = omega arith in
    let found : tlv_placed k.field.now (c.args.tlv.now.at + 1) ≡ Some t = ap (tlv_placed k.field.now) one ∙ c.requires.there in
    c.set.ensures.value
    ∙ ap (kept_with k) (ap (λ (o : Option TlvValue). placed_also t.kind o (kept_tlv k)) found ∙ placed_first (kept_tlv k) t.kind t (first_none k.field.now k.places t.kind c.requires.first))
    ∙ known_more k.ctx k.has_nlri t (kept_tlv k) k.others c.requires.known
