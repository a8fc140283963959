use Rattle.std.proofs.Common.{sym, ap, ◌∙◌}
use Rattle.std.specs.Prelude.{option_map}
use Rattle.bgp_wire.specs.Prelude.{has_octet}
use Rattle.bgp_update.specs.Prelude.{IsByType, found_at, update_value}
use Rattle.bgp_update.proofs.Filtered.{find-dropped, find-kept}
use Rattle.bgp_update.proofs.chosen.ChosenOfType.of_type.Goals as goal

pub returns-then-contains : goal.returns-then-contains
returns-then-contains c =
    let chosen = c.args.self.now in
    sym (find-dropped (has_octet chosen.drops.now) c.args.kind (sym c.contains.ensures ∙ c.if-contains.true) (update_value chosen.view.now).attrs.others)

pub returns-in-None : goal.returns-in-None
returns-in-None c =
    let chosen = c.args.self.now in
    let kind = c.args.kind in
    sym (
    find-kept (has_octet chosen.drops.now) kind (sym c.contains.ensures ∙ c.if-contains.false) (update_value chosen.view.now).attrs.others
    ∙ sym (chosen.found kind) ∙ ap (λ o. found_at (option_map (λ t. t.now) o) kind) c.in-None.is)

pub returns-in-Some : goal.returns-in-Some
returns-in-Some c =
    let chosen = c.args.self.now in
    let all = (update_value chosen.view.now).attrs.others in
    let sorted : IsByType c.in-Some.others.now all = λ k. sym (ap (λ o. found_at (option_map (λ t. t.now) o) k) c.in-Some.is) ∙ chosen.found k in
    c.get.ensures all sorted ∙ sym (find-kept (has_octet chosen.drops.now) c.args.kind (sym c.contains.ensures ∙ c.if-contains.false) all)
