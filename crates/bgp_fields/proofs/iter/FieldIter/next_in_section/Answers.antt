use Rattle.bgp_fields.proofs.Prelude.{ℕ, ◌+◌, List, ◌∷◌, ◌++◌, length, take, drop, None, sym, ap, ◌∙◌, Field, Unread, SectionPart, ValuePart, value_fields_in}
use Rattle.bgp_fields.proofs.Prelude.{section_fields_in, message_fields_in, Plan, fit}
use Rattle.bgp_fields.proofs.Steps.{section-step}
use Rattle.bgp_fields.proofs.iter.FieldIter.next_in_section.Goals as goal

pub returns : goal.returns
returns c =
    let it = c.args.self.now in
    let p = c.fit-plan.result in
    let g = c.group_from-group.result in
    let behind = c.split_at.ensures.back in
    let inside = c.split_at-2.result.0.now in
    let rest = c.split_at-2.result.1.now in
    let later : ℕ → List Field = λ n. message_fields_in it.reading it.message n None it.message_octets.now in
    section-step it.reading it.value it.value_group it.value_octets.now it.section it.at it.section_group it.section_octets.now later p g inside rest
    c.requires.value c.requires.some
    (c.fit-plan.ensures ∙ ap (λ (q : Plan ValuePart SectionPart). fit (SectionPart.All Unread) q (length it.section_octets.now)) c.section_plan.ensures)
    c.group_from-group.ensures
    (c.split_at-2.ensures.front ∙ ap (take p.inner_len) behind)
    (c.split_at-2.ensures.back ∙ ap (drop p.inner_len) behind)
    ∙ ap (λ (f : Field). f ∷ (value_fields_in it.reading p.inner (it.at + p.len) g inside
    ++ (section_fields_in it.reading p.next (it.at + p.len + length inside) g rest ++ later (it.at + p.len + length inside + length rest)))) (sym c.field.ensures)
