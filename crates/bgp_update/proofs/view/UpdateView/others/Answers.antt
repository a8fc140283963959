use Rattle.bgp_wire.proofs.Std.{◌≡◌, List, [], map, sym, ap, ◌∙◌, IfOk-weaker, flat_map}
use Rattle.bgp_attr.specs.declared.attr.Attr.{Attr}
use Rattle.bgp_attr.specs.Prelude.{opaque_value}
use Rattle.bgp_attr.specs.declared.opaque.OpaqueView.{OpaqueView}
use Rattle.bgp_attr.specs.declared.opaque.Opaque.{Opaque}
use Rattle.bgp_update.specs.Prelude.{attrs_left, kept_of, attrs_of, as_opaque, rising_behind, view_marks}
use Rattle.bgp_update.proofs.KeptSlots.{others_of-kept}
use Rattle.bgp_update.proofs.Placing.{no_others}
use Rattle.bgp_update.proofs.view.UpdateView.others.Goals as goal

pub returns-then-not-self-clause-value : goal.returns-then-not-self-clause-value
returns-then-not-self-clause-value c =
    let view = c.args.self.now in
    let none = no_others (kept_of (view_marks view)) (sym view.others ∙ c.if-not-self.true) in
    ap (λ (os : List OpaqueView). map opaque_value os) c.new.ensures ∙ sym (others_of-kept (kept_of (view_marks view)) ∙ ap (λ (os : List Opaque). rising_behind [] os) none)

pub returns-then-self-le-FEW_OCTETS-clause-value : goal.returns-then-self-le-FEW_OCTETS-clause-value
returns-then-self-le-FEW_OCTETS-clause-value c =
    let kept = kept_of (view_marks c.args.self.now) in
    IfOk-weaker c.others_in.result (λ os. map opaque_value os ≡ rising_behind [] (flat_map as_opaque (attrs_left c.attrs.result))) (λ os. map opaque_value os ≡ (attrs_of kept).others)
    (λ os is. is ∙ ap (λ (xs : List Attr). rising_behind [] (flat_map as_opaque xs)) c.attrs.ensures ∙ sym (others_of-kept kept)) c.others_in.ensures
