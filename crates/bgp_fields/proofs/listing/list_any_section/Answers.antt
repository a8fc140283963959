use Rattle.bgp_fields.proofs.Prelude.{ℕ, ◌+◌, List, ◌++◌, length, take, drop, ap, sym, ◌∙◌, arith, refl, Unread, ValuePart, SectionPart, value_fields_in}
use Rattle.bgp_fields.proofs.Prelude.{section_fields_in, section_plan_in, Plan, fit, section_planned}
use Rattle.bgp_fields.proofs.Walks.{walk-none, walk-some, walk-split, lengths}
use Rattle.bgp_fields.proofs.Listings.{listing, place_left, one_more, room_left, more, all_listed, some_left, none_left}
use Rattle.bgp_fields.proofs.listing.list_any_section.Goals as goal

pub section-init : goal.section-init
section-init g c = record {
  listing = listing g.row.T.Denot g.T.Listed.told (section_fields_in c.args.reading.now c.args.part c.args.at c.args.group c.args.octets.now) c.args.count c.args.list.now c.requires.room;
  few = c.requires.few;
  ends = refl;
}

pub section-preserved : goal.section-preserved
section-preserved g c =
    let left = c.section.left.now in
    let p = c.fit-plan.result in
    let inside = c.split_at-in-section.result.0.now in
    let rest = c.split_at-in-section.result.1.now in
    let held = c.group_from-holder.result in
    let behind = c.section.place + p.len in
    let all = section_fields_in c.args.reading.now c.args.part c.args.at c.args.group c.args.octets.now in
    let inner = value_fields_in c.args.reading.now p.inner behind held inside in
    let later = section_fields_in c.args.reading.now p.next (behind + p.inner_len) held rest in
    let some = some_left left (sym c.is_empty.ensures ∙ c.section-test.true) in
    let e = c.fit-plan.ensures ∙ ap (λ (q : Plan ValuePart SectionPart). fit (SectionPart.All Unread) q (length left)) c.section_plan.ensures in
    let inside_is = c.split_at-in-section.ensures.front ∙ ap (take p.inner_len) c.split_at.ensures.back in
    let rest_is = c.split_at-in-section.ensures.back ∙ ap (drop p.inner_len) c.split_at.ensures.back in
    let long = lengths ValuePart SectionPart (SectionPart.All Unread) (section_plan_in c.args.reading.now) (value_fields_in c.args.reading.now) c.section.next left inside rest (section_planned p) some e inside_is rest_is in
    let is = walk-split ValuePart SectionPart (SectionPart.All Unread) (section_plan_in c.args.reading.now) (value_fields_in c.args.reading.now) c.section.next c.section.place c.section.holder held left inside rest (section_planned p) some e c.group_from-holder.ensures inside_is rest_is in
    record {
      listing = more g.row.T.Denot g.T.Listed.told all (inner ++ later) later inner c.args.count (c.section.taken + 1) c.list_inside-taken.result c.args.list.now _ c.list_inside-taken.new.list
          (one_more g.row.T.Denot g.T.Listed.told all (section_fields_in c.args.reading.now c.section.next c.section.place c.section.holder left) (inner ++ later) _ c.args.count c.section.taken c.args.list.now c.section.list c.of.result c.section.invariant.listing is
          (c.of.ensures ∙ ap g.T.Listed.told c.field.ensures))
          refl c.list_inside-taken.ensures.count c.list_inside-taken.ensures.list;
      few = omega (arith, c.list_inside-taken.ensures.few, long.inner_len);
      ends = omega (arith, c.section.invariant.ends, long.whole);
    }

pub section-smaller : goal.section-smaller
section-smaller g c =
    let long = lengths ValuePart SectionPart (SectionPart.All Unread) (section_plan_in c.args.reading.now) (value_fields_in c.args.reading.now) c.section.next c.section.left.now c.split_at-in-section.result.0.now c.split_at-in-section.result.1.now (section_planned c.fit-plan.result)
    (some_left c.section.left.now (sym c.is_empty.ensures ∙ c.section-test.true))
    (c.fit-plan.ensures ∙ ap (λ (q : Plan ValuePart SectionPart). fit (SectionPart.All Unread) q (length c.section.left.now)) c.section_plan.ensures)
    (c.split_at-in-section.ensures.front ∙ ap (take c.fit-plan.result.inner_len) c.split_at.ensures.back)
    (c.split_at-in-section.ensures.back ∙ ap (drop c.fit-plan.result.inner_len) c.split_at.ensures.back) in
    omega (arith, long.some, long.whole)

pub list_inside-taken-requires-clause-room : goal.list_inside-taken-requires-clause-room
list_inside-taken-requires-clause-room g c =
    let left = c.section.left.now in
    let p = c.fit-plan.result in
    let inside = c.split_at-in-section.result.0.now in
    let rest = c.split_at-in-section.result.1.now in
    let held = c.group_from-holder.result in
    let behind = c.section.place + p.len in
    room_left g.row.T.Denot g.T.Listed.told (section_fields_in c.args.reading.now c.args.part c.args.at c.args.group c.args.octets.now)
    (section_fields_in c.args.reading.now c.section.next c.section.place c.section.holder left) (value_fields_in c.args.reading.now p.inner behind held inside)
    (section_fields_in c.args.reading.now p.next (behind + p.inner_len) held rest) _ c.args.count c.section.taken c.args.list.now c.section.list c.of.result c.section.invariant.listing
    (walk-split ValuePart SectionPart (SectionPart.All Unread) (section_plan_in c.args.reading.now) (value_fields_in c.args.reading.now) c.section.next c.section.place c.section.holder held left inside rest (section_planned p)
    (some_left left (sym c.is_empty.ensures ∙ c.section-test.true))
    (c.fit-plan.ensures ∙ ap (λ (q : Plan ValuePart SectionPart). fit (SectionPart.All Unread) q (length left)) c.section_plan.ensures)
    c.group_from-holder.ensures
    (c.split_at-in-section.ensures.front ∙ ap (take p.inner_len) c.split_at.ensures.back)
    (c.split_at-in-section.ensures.back ∙ ap (drop p.inner_len) c.split_at.ensures.back))

pub bounds-list-taken : goal.bounds-list-taken
bounds-list-taken g c =
    place_left g.row.T.Denot g.T.Listed.told (section_fields_in c.args.reading.now c.args.part c.args.at c.args.group c.args.octets.now)
    (section_fields_in c.args.reading.now c.section.next c.section.place c.section.holder c.section.left.now) c.args.count c.section.taken c.args.list.now c.section.list c.section.invariant.listing
    (walk-some ValuePart SectionPart (SectionPart.All Unread) (section_plan_in c.args.reading.now) (value_fields_in c.args.reading.now) c.section.next c.section.place c.section.holder c.section.left.now
    (some_left c.section.left.now (sym c.is_empty.ensures ∙ c.section-test.true)))

pub returns : goal.returns
returns g c =
    let left = c.section.left.now in
    let none = none_left left (sym c.is_empty.ensures ∙ c.section-test.false) in
    let done = all_listed g.row.T.Denot g.T.Listed.told (section_fields_in c.args.reading.now c.args.part c.args.at c.args.group c.args.octets.now)
    (section_fields_in c.args.reading.now c.section.next c.section.place c.section.holder left) c.args.count c.section.taken c.args.list.now c.section.list c.section.invariant.listing
    (ap (λ (b : List ℕ). section_fields_in c.args.reading.now c.section.next c.section.place c.section.holder b) none
    ∙ walk-none ValuePart SectionPart (SectionPart.All Unread) (section_plan_in c.args.reading.now) (value_fields_in c.args.reading.now) c.section.next c.section.place c.section.holder) in
    record { list = done.0; count = done.1; few = omega (arith, c.section.invariant.few, c.section.invariant.ends) }
