use Rattle.bgp_fields.proofs.Prelude.{◌≡◌, ℕ, Bool, true, ◌==◌, List, length, sym, ◌∙◌, eqb-true, section_at, message_at}
use Rattle.bgp_fields.proofs.Steps.{nothing-left}
use Rattle.bgp_fields.proofs.iter.FieldIter.next_field.Goals as goal

empty : (b : List ℕ) (r : Bool) → r ≡ (length b == 0) → r ≡ true → length b ≡ 0
empty b r e is = eqb-true (length b) 0 (sym e ∙ is)

pub returns-then-is_empty : goal.returns-then-is_empty
returns-then-is_empty c =
    let it = c.args.self.now in
    let none = nothing-left it.reading it.value it.at it.value_group it.value_octets.now it.section (section_at it) it.section_group it.section_octets.now
    it.message (message_at it) it.message_octets.now (empty _ _ c.is_empty.ensures c.if-not-is_empty.false) (empty _ _ c.is_empty-2.ensures c.if-not-is_empty-2.false) (empty _ _ c.is_empty-3.ensures c.if-is_empty.true) in
    (none, none)
