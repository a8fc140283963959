use Rattle.std.proofs.Common.{◌≡◌, ap, ◌∙◌, arith}
use Rattle.std.proofs.lemmas.List.Sums.{sum_by-cons}
use Rattle.bgp_attr.specs.Prelude.{path_value, segment_value, segments_left}
use Rattle.bgp_update.specs.Prelude.{items_in, items_of}
use Rattle.bgp_update.proofs.PathItems.{items_within, items_step}
use Rattle.bgp_update.proofs.view_items.items_of.Goals as goal

pub overflow_add-items : goal.overflow_add-items
overflow_add-items c =
    let path = c.args.path in
    let first = ap items_of c.in-Some.ensures.steps ∙ sum_by-cons items_in (segment_value c.in-Some.segment) (segments_left c.next.new.self) in
    omega (arith, c.path.invariant, first, c.items_in-items.ensures, items_within path.form path.octets.now)

pub path-preserved : goal.path-preserved
path-preserved c =
    items_step (items_of (path_value c.args.path).segments) c.path.items c.items_in-items.result (segments_left c.path.segment-iterator) (segments_left c.next.new.self) (segment_value c.in-Some.segment)
    c.path.invariant c.in-Some.ensures.steps c.items_in-items.ensures

pub returns : goal.returns
returns c =
    let none : items_of (segments_left c.path.segment-iterator) ≡ 0 = ap items_of c.in-None.ensures.steps.0 in
    omega (arith, none, c.path.invariant)
