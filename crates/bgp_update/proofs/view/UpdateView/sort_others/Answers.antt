use Rattle.bgp_wire.proofs.Std.{List, [], sym, ap, ◌∙◌, flat_map}
use Rattle.bgp_attr.specs.declared.attr.Attr.{Attr}
use Rattle.bgp_update.specs.Prelude.{kept_of, as_opaque, rising_behind, view_marks}
use Rattle.bgp_update.proofs.KeptSlots.{others_of-kept}
use Rattle.bgp_update.proofs.Rising.{of_kind}
use Rattle.bgp_update.proofs.view.UpdateView.sort_others.Goals as goal

pub returns : goal.returns
returns c = λ k.
    c.fill.ensures k
    ∙ ap (of_kind k) (ap (λ (xs : List Attr). rising_behind [] (flat_map as_opaque xs)) c.attrs.ensures ∙ sym (others_of-kept (kept_of (view_marks c.args.self.now))))
