use Rattle.bgp_fields.proofs.Prelude.{◌+◌, ◌∷◌, ◌++◌, length, take, drop, None, sym, ap, ◌∙◌, Field, Unread, MessagePart, SectionPart, value_fields_in}
use Rattle.bgp_fields.proofs.Prelude.{section_fields_in, message_fields_in, Plan, fit}
use Rattle.bgp_fields.proofs.Steps.{message-step}
use Rattle.bgp_fields.proofs.iter.FieldIter.next_in_message.Goals as goal

pub returns : goal.returns
returns c =
    let it = c.args.self.now in
    let p = c.fit-plan.result in
    let behind = c.split_at.ensures.back in
    let inside = c.split_at-2.result.0.now in
    let rest = c.split_at-2.result.1.now in
    let none = length it.value_octets.now in
    message-step it.reading it.value it.value_group it.value_octets.now it.section it.section_group it.section_octets.now it.message it.at it.message_octets.now
    p inside rest c.requires.value c.requires.section c.requires.some
    (c.fit-plan.ensures ∙ ap (λ (q : Plan SectionPart MessagePart). fit (MessagePart.All Unread) q (length it.message_octets.now)) c.message_plan.ensures)
    (c.split_at-2.ensures.front ∙ ap (take p.inner_len) behind)
    (c.split_at-2.ensures.back ∙ ap (drop p.inner_len) behind)
    ∙ ap (λ (f : Field). f ∷ (value_fields_in it.reading it.value (it.at + p.len) it.value_group it.value_octets.now
    ++ (section_fields_in it.reading p.inner (it.at + p.len + none) None inside
    ++ message_fields_in it.reading p.next (it.at + p.len + none + length inside) None rest))) (sym c.field.ensures)
