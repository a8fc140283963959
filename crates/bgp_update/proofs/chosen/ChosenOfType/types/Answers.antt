use Rattle.bgp_wire.proofs.Std.{◌≡◌, not, [], sym, ap, ◌∙◌, filter}
use Rattle.std.specs.Prelude.{option_map}
use Rattle.bgp_wire.specs.Prelude.{has_octet}
use Rattle.bgp_update.specs.Prelude.{found_at, update_value}
use Rattle.bgp_update.proofs.ByTypes.{none_found}
use Rattle.bgp_update.proofs.SlotTypes.{recognised_types}
use Rattle.bgp_update.proofs.chosen.ChosenOfType.types.Goals as goal

pub returns-in-None : goal.returns-in-None
returns-in-None c =
    let chosen = c.args.self.now in
    let all = (update_value chosen.view.now).attrs.others in
    let none : all ≡ [] = none_found all (λ k. sym (ap (λ o. found_at (option_map (λ t. t.now) o) k) c.in-None.is) ∙ chosen.found k) in
    λ a same. recognised_types a (same ∙ ap (filter (λ o. not (has_octet chosen.drops.now o.kind))) none)
