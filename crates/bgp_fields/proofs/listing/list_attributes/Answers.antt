use Rattle.bgp_fields.proofs.Prelude.{◌+◌, List, ◌++◌, length, Option, ap, ap₂, sym, ◌∙◌, arith, refl, Field, Group, ValuePart, value_fields_in, section_fields_in}
use Rattle.bgp_fields.proofs.Prelude.{head_fields, SectionPart}
use Rattle.bgp_fields.proofs.Steps.{attribute-next, head-long}
use Rattle.bgp_fields.proofs.Listings.{more, room_behind}
use Rattle.bgp_fields.proofs.listing.list_attributes.Goals as goal

pub list_head-requires-clause-room : goal.list_head-requires-clause-room
list_head-requires-clause-room g c =
    let so_far = c.attributes.invariant.listing in
    omega (arith, so_far.counted, so_far.room, ap length (attribute-next c.args.reading.now c.attributes.place c.attributes.holder c.attributes.left.now c.in-Some.head c.in-Some.ensures))

pub list_inside-taken-requires-clause-room : goal.list_inside-taken-requires-clause-room
list_inside-taken-requires-clause-room g c =
    let r = c.args.reading.now in
    let h = c.in-Some.head in
    let place = c.attributes.place in
    let behind = place + (2 + h.width) in
    let head = head_fields place h.kind h.width in
    let inner : ValuePart → Option Group → List Field = λ part group. value_fields_in r part behind group h.value.now in
    let later : Option Group → List Field = λ group. section_fields_in r SectionPart.AttributeFlags (behind + length h.value.now) group h.rest.now in
    room_behind g.row.T.Denot g.T.Listed.told (section_fields_in r SectionPart.AttributeFlags c.args.at c.args.group c.args.octets.now)
    (section_fields_in r SectionPart.AttributeFlags place c.attributes.holder c.attributes.left.now) head (inner c.attribute_value-part.result c.group_from-holder.result) (later c.group_from-holder.result)
    c.args.count c.attributes.taken (c.attributes.taken + 3) c.args.list.now c.attributes.list c.list_head.new.list c.attributes.invariant.listing
    (attribute-next r place c.attributes.holder c.attributes.left.now h c.in-Some.ensures
    ∙ ap₂ (λ (part : ValuePart) (group : Option Group). head ++ (inner part group ++ later group)) (sym c.attribute_value-part.ensures) (sym c.group_from-holder.ensures))
    refl c.list_head.ensures

pub attributes-preserved : goal.attributes-preserved
attributes-preserved g c =
    let r = c.args.reading.now in
    let h = c.in-Some.head in
    let place = c.attributes.place in
    let left = c.attributes.left.now in
    let behind = place + (2 + h.width) in
    let told = g.T.Listed.told in
    let all = section_fields_in r SectionPart.AttributeFlags c.args.at c.args.group c.args.octets.now in
    let now = section_fields_in r SectionPart.AttributeFlags place c.attributes.holder left in
    let head = head_fields place h.kind h.width in
    let inner : ValuePart → Option Group → List Field = λ part group. value_fields_in r part behind group h.value.now in
    let later : Option Group → List Field = λ group. section_fields_in r SectionPart.AttributeFlags (behind + length h.value.now) group h.rest.now in
    let held = c.group_from-holder.result in
    let part = c.attribute_value-part.result in
    let is = attribute-next r place c.attributes.holder left h c.in-Some.ensures
    ∙ ap₂ (λ (part : ValuePart) (group : Option Group). head ++ (inner part group ++ later group)) (sym c.attribute_value-part.ensures) (sym c.group_from-holder.ensures) in
    let headed = more g.row.T.Denot told all now (inner part held ++ later held) head c.args.count c.attributes.taken (c.attributes.taken + 3) c.args.list.now c.attributes.list c.list_head.new.list
    c.attributes.invariant.listing is refl c.list_head.ensures in
    record {
      listing = more g.row.T.Denot told all (inner part held ++ later held) (later held) (inner part held) c.args.count (c.attributes.taken + 3) c.list_inside-taken.result c.args.list.now c.list_head.new.list c.list_inside-taken.new.list
          headed refl c.list_inside-taken.ensures.count c.list_inside-taken.ensures.list;
      few = c.list_inside-taken.ensures.few;
      ends = omega (arith, c.attributes.invariant.ends, head-long left h c.in-Some.ensures);
    }
