use Rattle.bgp_fields.proofs.Prelude.{ℕ, ◌+◌, List, ◌++◌, length, take, drop, None, ap, sym, ◌∙◌, arith, refl, Unread, MessagePart, SectionPart}
use Rattle.bgp_fields.proofs.Prelude.{section_fields_in, message_fields_in, message_plan_in, Plan, fit, message_planned}
use Rattle.bgp_fields.proofs.Walks.{walk-none, walk-some, walk-split, lengths}
use Rattle.bgp_fields.proofs.Listings.{listing, place_left, one_more, room_left, more, all_listed, some_left, none_left}
use Rattle.bgp_fields.proofs.listing.list_message.Goals as goal

pub message-init : goal.message-init
message-init g c = record {
  listing = listing g.row.T.Denot g.T.Listed.told (message_fields_in c.args.reading.now c.args.part c.args.at None c.args.octets.now) c.args.count c.args.list.now c.requires.room;
  few = c.requires.few;
  ends = refl;
}

pub message-preserved : goal.message-preserved
message-preserved g c =
    let left = c.message.left.now in
    let p = c.fit-plan.result in
    let inside = c.split_at-in-message.result.0.now in
    let rest = c.split_at-in-message.result.1.now in
    let behind = c.message.place + p.len in
    let all = message_fields_in c.args.reading.now c.args.part c.args.at None c.args.octets.now in
    let inner = section_fields_in c.args.reading.now p.inner behind None inside in
    let later = message_fields_in c.args.reading.now p.next (behind + p.inner_len) None rest in
    let some = some_left left (sym c.is_empty.ensures ∙ c.message-test.true) in
    let e = c.fit-plan.ensures ∙ ap (λ (q : Plan SectionPart MessagePart). fit (MessagePart.All Unread) q (length left)) c.message_plan.ensures in
    let inside_is = c.split_at-in-message.ensures.front ∙ ap (take p.inner_len) c.split_at.ensures.back in
    let rest_is = c.split_at-in-message.ensures.back ∙ ap (drop p.inner_len) c.split_at.ensures.back in
    let long = lengths SectionPart MessagePart (MessagePart.All Unread) (message_plan_in c.args.reading.now.paths) (section_fields_in c.args.reading.now) c.message.next left inside rest (message_planned p) some e inside_is rest_is in
    let is = walk-split SectionPart MessagePart (MessagePart.All Unread) (message_plan_in c.args.reading.now.paths) (section_fields_in c.args.reading.now) c.message.next c.message.place None None left inside rest (message_planned p) some e refl inside_is rest_is in
    record {
      listing = more g.row.T.Denot g.T.Listed.told all (inner ++ later) later inner c.args.count (c.message.taken + 1) c.list_section-taken.result c.args.list.now _ c.list_section-taken.new.list
          (one_more g.row.T.Denot g.T.Listed.told all (message_fields_in c.args.reading.now c.message.next c.message.place None left) (inner ++ later) _ c.args.count c.message.taken c.args.list.now c.message.list c.of.result c.message.invariant.listing is
          (c.of.ensures ∙ ap g.T.Listed.told c.field.ensures))
          refl c.list_section-taken.ensures.count c.list_section-taken.ensures.list;
      few = omega (arith, c.list_section-taken.ensures.few, long.inner_len);
      ends = omega (arith, c.message.invariant.ends, long.whole);
    }

pub message-smaller : goal.message-smaller
message-smaller g c =
    let long = lengths SectionPart MessagePart (MessagePart.All Unread) (message_plan_in c.args.reading.now.paths) (section_fields_in c.args.reading.now) c.message.next c.message.left.now c.split_at-in-message.result.0.now c.split_at-in-message.result.1.now (message_planned c.fit-plan.result)
    (some_left c.message.left.now (sym c.is_empty.ensures ∙ c.message-test.true))
    (c.fit-plan.ensures ∙ ap (λ (q : Plan SectionPart MessagePart). fit (MessagePart.All Unread) q (length c.message.left.now)) c.message_plan.ensures)
    (c.split_at-in-message.ensures.front ∙ ap (take c.fit-plan.result.inner_len) c.split_at.ensures.back)
    (c.split_at-in-message.ensures.back ∙ ap (drop c.fit-plan.result.inner_len) c.split_at.ensures.back) in
    omega (arith, long.some, long.whole)

pub list_section-taken-requires-clause-room : goal.list_section-taken-requires-clause-room
list_section-taken-requires-clause-room g c =
    let left = c.message.left.now in
    let p = c.fit-plan.result in
    let inside = c.split_at-in-message.result.0.now in
    let rest = c.split_at-in-message.result.1.now in
    let behind = c.message.place + p.len in
    room_left g.row.T.Denot g.T.Listed.told (message_fields_in c.args.reading.now c.args.part c.args.at None c.args.octets.now)
    (message_fields_in c.args.reading.now c.message.next c.message.place None left) (section_fields_in c.args.reading.now p.inner behind None inside)
    (message_fields_in c.args.reading.now p.next (behind + p.inner_len) None rest) _ c.args.count c.message.taken c.args.list.now c.message.list c.of.result c.message.invariant.listing
    (walk-split SectionPart MessagePart (MessagePart.All Unread) (message_plan_in c.args.reading.now.paths) (section_fields_in c.args.reading.now) c.message.next c.message.place None None left inside rest (message_planned p)
    (some_left left (sym c.is_empty.ensures ∙ c.message-test.true))
    (c.fit-plan.ensures ∙ ap (λ (q : Plan SectionPart MessagePart). fit (MessagePart.All Unread) q (length left)) c.message_plan.ensures)
    refl
    (c.split_at-in-message.ensures.front ∙ ap (take p.inner_len) c.split_at.ensures.back)
    (c.split_at-in-message.ensures.back ∙ ap (drop p.inner_len) c.split_at.ensures.back))

pub bounds-list-taken : goal.bounds-list-taken
bounds-list-taken g c =
    place_left g.row.T.Denot g.T.Listed.told (message_fields_in c.args.reading.now c.args.part c.args.at None c.args.octets.now)
    (message_fields_in c.args.reading.now c.message.next c.message.place None c.message.left.now) c.args.count c.message.taken c.args.list.now c.message.list c.message.invariant.listing
    (walk-some SectionPart MessagePart (MessagePart.All Unread) (message_plan_in c.args.reading.now.paths) (section_fields_in c.args.reading.now) c.message.next c.message.place None c.message.left.now
    (some_left c.message.left.now (sym c.is_empty.ensures ∙ c.message-test.true)))

pub returns : goal.returns
returns g c =
    let left = c.message.left.now in
    let none = none_left left (sym c.is_empty.ensures ∙ c.message-test.false) in
    let done = all_listed g.row.T.Denot g.T.Listed.told (message_fields_in c.args.reading.now c.args.part c.args.at None c.args.octets.now)
    (message_fields_in c.args.reading.now c.message.next c.message.place None left) c.args.count c.message.taken c.args.list.now c.message.list c.message.invariant.listing
    (ap (λ (b : List ℕ). message_fields_in c.args.reading.now c.message.next c.message.place None b) none
    ∙ walk-none SectionPart MessagePart (MessagePart.All Unread) (message_plan_in c.args.reading.now.paths) (section_fields_in c.args.reading.now) c.message.next c.message.place None) in
    record { list = done.0; count = done.1 }
