use Rattle.std.proofs.Common.{◌≡◌, List, [], sym, ap, ◌∙◌}
use Rattle.bgp_attr.specs.declared.opaque.Opaque.{Opaque}
use Rattle.bgp_update.specs.Prelude.{kept_of, rising_behind, update_value, view_marks}
use Rattle.bgp_update.proofs.KeptSlots.{others_of-kept}
use Rattle.bgp_update.proofs.Placing.{no_others}
use Rattle.bgp_update.proofs.Rising.{of_kind}
use Rattle.bgp_update.proofs.chosen.Chosen.all.Goals as goal

pub invariant_of-result : goal.invariant_of-result
invariant_of-result c =
    let view = c.args.view.now in
    let kept = kept_of (view_marks view) in
    let none = no_others kept (sym view.others ∙ c.requires) in
    let others : (update_value view).attrs.others ≡ [] = others_of-kept kept ∙ ap (λ (os : List Opaque). rising_behind [] os) none in
    record { found = λ k. ap (of_kind k) (sym others) }
