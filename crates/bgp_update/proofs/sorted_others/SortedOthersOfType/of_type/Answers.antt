use Rattle.std.proofs.Common.{map, sym, ap, ◌∙◌}
use Rattle.std.specs.Prelude.{option_map}
use Rattle.bgp_attr.specs.Prelude.{opaque_value}
use Rattle.bgp_update.specs.Prelude.{IsByType}
use Rattle.bgp_update.specs.steps.SortedOthers.{sorted_at}
use Rattle.bgp_update.proofs.sorted_others.SortedOthersOfType.of_type.Goals as goal

pub returns-in-Some : goal.returns-in-Some
returns-in-Some c =
    let it = c.args.self.now in
    let all = map opaque_value it.row.now in
    let sorted : IsByType c.in-Some.by_type.now all = λ k. sym (ap (λ o. sorted_at (option_map (λ t. t.now) o) all k) c.in-Some.is) ∙ it.sorted k in
    c.get.ensures all sorted
