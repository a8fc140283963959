use Rattle.bgp_wire.proofs.Std.{◌≤◌, ◌++◌, List, length, map, sym, ap, ◌∙◌, arith, flat_map}
use Rattle.std.proofs.lemmas.List.{append-nil}
use Rattle.std.proofs.Math.ListN.{drop_of_length-le}
use Rattle.bgp_attr.specs.Prelude.{opaque_value}
use Rattle.bgp_attr.specs.declared.opaque.OpaqueView.{OpaqueView}
use Rattle.std.specs.Prelude.{Option}
use Rattle.bgp_update.proofs.ByTypes.{standing, standing-all}
use Rattle.bgp_update.proofs.others.row_of.Goals as goal

pub returns : goal.returns
returns c =
    let places = c.args.place.now.of_type in
    let row = map opaque_value c.types.others in
    let all_seen : length places ≤ c.types.found-index = omega (arith, c.types-test.false) in
    λ os is rises small.
    sym (append-nil row)
    ∙ ap (λ (rest : List (Option OpaqueView)). row ++ flat_map standing rest) (sym (drop_of_length-le places all_seen))
    ∙ c.types.invariant
    ∙ standing-all places os c.are_all_types.ensures rises small is
