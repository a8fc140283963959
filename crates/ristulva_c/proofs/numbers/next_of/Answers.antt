use Rattle.ristulva_c.proofs.Below.{◌≡◌, ◌-◌, ◌∷◌, [], Bool, length, subst, ap, ◌∙◌, numbers_of, one_number}
use Rattle.bgp_attr.proofs.NumberSteps.{no_number}
use Rattle.ristulva_c.specs.Prelude.{between, IsNumbers}
use Rattle.ristulva_c.proofs.NumberSteps.{numbers_behind}
use Rattle.ristulva_c.proofs.numbers.next_of.Goals as goal

pub returns-in_default-first_number-clause-over : goal.returns-in_default-first_number-clause-over
returns-in_default-first_number-clause-over c over =
    let left = between c.args.octets.now c.args.cursor.now.at c.args.cursor.now.end in
    subst (λ (w : Bool). numbers_of w left ≡ []) c.requires.wide (no_number c.args.wide left (c.in_default-first_number.ensures ∙ ap (one_number c.args.wide) c.in-Some.ensures.lookup.0.2))

pub returns-clause-ok : goal.returns-clause-ok
returns-clause-ok c ok =
    let b = c.args.octets.now in
    let old = c.args.cursor.now in
    let first = c.in-Some-first_number in
    let found = c.in-Some.ensures.lookup.0 in
    let lies : IsNumbers b old = record { in_order = found.0; within = found.1; known = c.requires.known } in
    subst (λ (w : Bool). numbers_of w (between b old.at old.end) ≡ first.number ∷ numbers_of w (between b (old.end - length first.rest.now) old.end)) c.requires.wide
    (numbers_behind c.args.wide b c.in-Some.field.now old first.number first.rest.now lies found.2 first.ensures)
