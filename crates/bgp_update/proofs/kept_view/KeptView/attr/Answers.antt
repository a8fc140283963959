use Rattle.std.proofs.Common.{◌≡◌, Option, Some, None, refl, sym, ap, ◌∙◌}
use Rattle.std.specs.Prelude.{option_map}
use Rattle.bgp_attr.specs.Prelude.{attr_value, type_row, TlvValue}
use Rattle.bgp_attr.specs.declared.attr.Attr.{Attr}
use Rattle.bgp_update.specs.Prelude.{kept_tlv, present}
use Rattle.bgp_update.proofs.Placed.{slot-value}
use Rattle.bgp_update.proofs.kept_view.KeptView.attr.Goals as goal

present-map : {A : Type 0} (f : A → Attr) (o : Option A) → present f o ≡ present (λ (a : Attr). a) (option_map f o)
present-map f None = refl
present-map f (Some x) = refl

pub returns : goal.returns
returns c =
    let k = c.args.self.now in
    present-map attr_value c.known.result
    ∙ ap (present (λ (a : Attr). a)) c.known.ensures
    ∙ sym (present-map (λ (t : TlvValue). (type_row k.ctx k.has_nlri t).value) (kept_tlv k c.args.kind))
    ∙ sym (slot-value k.ctx k.has_nlri k.field.now k.places k.placed c.args.kind)
