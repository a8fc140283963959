use Rattle.bgp_fields.proofs.Prelude.{ℕ, ◌+◌, ◌≤◌, List, [], length, drop, ap, sym, ◌∙◌, arith, refl, append-nil, length-drop, Unread, ValuePart, no_fields}
use Rattle.bgp_fields.proofs.Prelude.{value_fields_in, value_plan_in}
use Rattle.bgp_fields.proofs.Walks.{walk-some}
use Rattle.bgp_fields.proofs.Steps.{row-next}
use Rattle.bgp_fields.proofs.Listings.{place_left, one_more, more, all_listed}
use Rattle.bgp_fields.proofs.listing.list_row.Goals as goal

pub row-preserved : goal.row-preserved
row-preserved g c =
    let first = c.args.first in
    let left = c.row.left.now in
    let rest = c.split_at.result.1.now in
    let fields : ℕ → List ℕ → _ = λ at b. value_fields_in c.args.reading.now c.args.part at first.group b in
    let room : first.len ≤ length left = omega (arith, c.row-test.true, c.from-width.ensures) in
    let rest_is = c.split_at.ensures.back ∙ ap (λ (n : ℕ). drop n left) c.from-width.ensures in
    let is = row-next c.args.reading.now c.args.part first.kind first.len c.row.at first.group left rest c.requires.row c.requires.some room rest_is in
    record {
      listing = one_more g.row.T.Denot g.T.Listed.told (fields first.at c.args.octets.now) (fields c.row.at left) (fields (c.row.at + first.len) rest) _ c.args.count c.row.taken c.args.list.now c.row.list c.of.result
          c.row.invariant.listing is c.of.ensures;
      few = omega (arith, c.row.invariant.few, c.requires.some);
      ends = omega (arith, c.row.invariant.ends, ap length rest_is, length-drop first.len left, room);
    }

pub bounds-list-taken : goal.bounds-list-taken
bounds-list-taken g c =
    place_left g.row.T.Denot g.T.Listed.told (value_fields_in c.args.reading.now c.args.part c.args.first.at c.args.first.group c.args.octets.now)
    (value_fields_in c.args.reading.now c.args.part c.row.at c.args.first.group c.row.left.now) c.args.count c.row.taken c.args.list.now c.row.list c.row.invariant.listing
    (walk-some (Unit {0}) ValuePart (ValuePart.All Unread) (value_plan_in c.args.reading.now) no_fields c.args.part c.row.at c.args.first.group c.row.left.now
    (omega (arith, c.row-test.true, c.from-width.ensures, c.requires.some)))

pub returns : goal.returns
returns g c =
    let first = c.args.first in
    let all = value_fields_in c.args.reading.now c.args.part first.at first.group c.args.octets.now in
    let fields : ℕ → _ = λ at. value_fields_in c.args.reading.now c.args.part at first.group c.row.left.now in
    let done = all_listed g.row.T.Denot g.T.Listed.told all [] c.args.count c.list_value.result c.args.list.now c.list_value.new.list
    (more g.row.T.Denot g.T.Listed.told all (fields c.row.at) [] (fields c.from.result) c.args.count c.row.taken c.list_value.result c.args.list.now c.row.list c.list_value.new.list c.row.invariant.listing
    (ap fields (sym c.from.ensures) ∙ sym (append-nil (fields c.from.result))) c.list_value.ensures.count c.list_value.ensures.list)
    refl in
    record { list = done.0; count = done.1; few = omega (arith, c.list_value.ensures.few, c.from.ensures, c.row.invariant.ends) }
