use Rattle.bgp_fields.proofs.Prelude.{ℕ, ◌+◌, List, ◌∷◌, ◌++◌, length, None, sym, ap, ◌∙◌, Field, Unread, ValuePart, value_fields_in, section_fields_in}
use Rattle.bgp_fields.proofs.Prelude.{message_fields_in, Plan, fit}
use Rattle.bgp_fields.proofs.Steps.{value-step}
use Rattle.bgp_fields.proofs.iter.FieldIter.next_in_value.Goals as goal

pub returns : goal.returns
returns c =
    let it = c.args.self.now in
    let p = c.fit-plan.result in
    let g = c.group_from-self.result in
    let rest = c.split_at.result.1.now in
    let later : ℕ → List Field = λ n. section_fields_in it.reading it.section n it.section_group it.section_octets.now
    ++ message_fields_in it.reading it.message (n + length it.section_octets.now) None it.message_octets.now in
    value-step it.reading it.value it.at it.value_group it.value_octets.now later p g rest c.requires
    (c.fit-plan.ensures ∙ ap (λ (q : Plan (Unit {0}) ValuePart). fit (ValuePart.All Unread) q (length it.value_octets.now)) c.value_plan.ensures)
    c.group_from-self.ensures c.split_at.ensures.back
    ∙ ap (λ (f : Field). f ∷ (value_fields_in it.reading p.next (it.at + p.len) g rest ++ later (it.at + p.len + length rest))) (sym c.field.ensures)
