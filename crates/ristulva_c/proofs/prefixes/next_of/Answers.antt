use Rattle.ristulva_c.proofs.Below.{◌-◌, ◌∷◌, ℕ, length, sym, ap, ◌∙◌, PrefixValue, IsPrefix, one_prefix, run_of, no_more, IsPrefix-reads}
use Rattle.ristulva_c.specs.Prelude.{width_of, between, prefix_told}
use Rattle.ristulva_c.proofs.PrefixSteps.{prefixes_behind, told_same}
use Rattle.ristulva_c.proofs.prefixes.next_of.Goals as goal

pub returns-in-None-clause-over : goal.returns-in-None-clause-over
returns-in-None-clause-over g c over =
    let old = c.args.cursor.now in
    let w = width_of old.afi in
    no_more PrefixValue (IsPrefix w) (one_prefix w) (IsPrefix-reads w) (between c.args.octets.now old.at old.end)
    (c.in-None.ensures ∙ ap (λ (n : ℕ). one_prefix n c.in-Some.field.now) (sym c.requires.width) ∙ ap (one_prefix w) c.in-Some.ensures.1)

pub returns-in-Some-first_prefix-clause-ok : goal.returns-in-Some-first_prefix-clause-ok
returns-in-Some-first_prefix-clause-ok g c ok =
    let old = c.args.cursor.now in
    let found = c.in-Some-first_prefix.found in
    let field = c.in-Some.field.now in
    prefixes_behind (width_of old.afi) c.args.octets.now field old found.0 found.1.now c.in-Some.ensures.0 c.in-Some.ensures.1
    (c.in-Some-first_prefix.ensures ∙ ap (λ (n : ℕ). one_prefix n field) (sym c.requires.width))
    ∙ ap (λ (p : PrefixValue). p ∷ (run_of (width_of old.afi) (between c.args.octets.now (old.end - length found.1.now) old.end)).0)
    (sym (ap prefix_told c.prefix_row.ensures.value ∙ told_same old.afi found.0 (c.prefix_row.ensures.wide ∙ sym c.requires.width)))
