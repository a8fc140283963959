use Rattle.bgp_fields.proofs.Prelude.{ℕ, ◌+◌, List, length, ap, sym, ◌∙◌, arith, length-drop, refl, Unread, ValuePart, no_fields, value_fields_in, value_plan_in}
use Rattle.bgp_fields.proofs.Prelude.{Plan, fit, value_planned}
use Rattle.bgp_fields.proofs.Walks.{walk-none, walk-some, fits-told}
use Rattle.bgp_fields.proofs.Steps.{value-next}
use Rattle.bgp_fields.proofs.Listings.{listing, place_left, one_more, all_listed, some_left, none_left}
use Rattle.bgp_fields.proofs.listing.list_value.Goals as goal

pub value-init : goal.value-init
value-init g c = record {
  listing = listing g.row.T.Denot g.T.Listed.told (value_fields_in c.args.reading.now c.args.part c.args.at c.args.group c.args.octets.now) c.args.count c.args.list.now c.requires.room;
  few = c.requires.few;
  ends = refl;
}

pub value-preserved : goal.value-preserved
value-preserved g c =
    let left = c.value.left.now in
    let p = c.fit-plan.result in
    let rest = c.split_at.result.1.now in
    let all = value_fields_in c.args.reading.now c.args.part c.args.at c.args.group c.args.octets.now in
    let now = value_fields_in c.args.reading.now c.value.next c.value.place c.value.holder left in
    let later = value_fields_in c.args.reading.now p.next (c.value.place + p.len) c.group_from-holder.result rest in
    let some = some_left left (sym c.is_empty.ensures ∙ c.value-test.true) in
    let e = c.fit-plan.ensures ∙ ap (λ (q : Plan (Unit {0}) ValuePart). fit (ValuePart.All Unread) q (length left)) c.value_plan.ensures in
    let fits = fits-told (Unit {0}) ValuePart (ValuePart.All Unread) (value_plan_in c.args.reading.now) no_fields c.value.next left (value_planned p) some e in
    let is = value-next c.args.reading.now c.value.next c.value.place c.value.holder c.group_from-holder.result left rest p some e c.group_from-holder.ensures c.split_at.ensures.back in
    record {
      listing = one_more g.row.T.Denot g.T.Listed.told all now later _ c.args.count c.value.taken c.args.list.now c.value.list c.of.result c.value.invariant.listing is
          (c.of.ensures ∙ ap g.T.Listed.told c.field.ensures);
      few = omega (arith, c.value.invariant.few, fits.0);
      ends = omega (arith, c.value.invariant.ends, ap length c.split_at.ensures.back, length-drop p.len left, fits.1);
    }

pub returns : goal.returns
returns g c =
    let left = c.value.left.now in
    let none = none_left left (sym c.is_empty.ensures ∙ c.value-test.false) in
    let done = all_listed g.row.T.Denot g.T.Listed.told (value_fields_in c.args.reading.now c.args.part c.args.at c.args.group c.args.octets.now)
    (value_fields_in c.args.reading.now c.value.next c.value.place c.value.holder left) c.args.count c.value.taken c.args.list.now c.value.list c.value.invariant.listing
    (ap (λ (b : List ℕ). value_fields_in c.args.reading.now c.value.next c.value.place c.value.holder b) none
    ∙ walk-none (Unit {0}) ValuePart (ValuePart.All Unread) (value_plan_in c.args.reading.now) no_fields c.value.next c.value.place c.value.holder) in
    record { list = done.0; count = done.1; few = omega (arith, c.value.invariant.few, c.value.invariant.ends) }

pub bounds-list-taken : goal.bounds-list-taken
bounds-list-taken g c =
    place_left g.row.T.Denot g.T.Listed.told (value_fields_in c.args.reading.now c.args.part c.args.at c.args.group c.args.octets.now)
    (value_fields_in c.args.reading.now c.value.next c.value.place c.value.holder c.value.left.now) c.args.count c.value.taken c.args.list.now c.value.list c.value.invariant.listing
    (walk-some (Unit {0}) ValuePart (ValuePart.All Unread) (value_plan_in c.args.reading.now) no_fields c.value.next c.value.place c.value.holder c.value.left.now
    (some_left c.value.left.now (sym c.is_empty.ensures ∙ c.value-test.true)))
