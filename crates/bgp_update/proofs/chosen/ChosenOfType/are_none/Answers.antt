use Rattle.bgp_wire.proofs.Std.{◌≡◌, not, [], None, sym, ap, ◌∙◌, rules, filter}
use Rattle.std.specs.Prelude.{option_map}
use Rattle.bgp_wire.specs.Prelude.{has_octet}
use Rattle.bgp_update.specs.Prelude.{found_at, update_value}
use Rattle.bgp_update.proofs.ByTypes.{none_found}
use Rattle.bgp_update.proofs.chosen.ChosenOfType.are_none.Goals as goal

pub returns : goal.returns
returns c none =
    let chosen = c.args.self.now in
    let all = (update_value chosen.view.now).attrs.others in
    let nothing : option_map (λ t. t.now) chosen.others ≡ None = search rules in
    let empty : all ≡ [] = none_found all (λ k. sym (ap (λ o. found_at o k) nothing) ∙ chosen.found k) in
    ap (filter (λ o. not (has_octet chosen.drops.now o.kind))) empty
