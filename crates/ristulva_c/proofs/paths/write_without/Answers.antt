use Rattle.ristulva_c.proofs.Below.{List, length, subst, sym, ℕ, ◌+◌, ◌∙◌}
use Rattle.bgp_frame.specs.declared.kind.Kind.TheVariants as kinds
use Rattle.bgp_frame.specs.Prelude.{IsLength}
use Rattle.bgp_terms.specs.Prelude.{wide_terms}
use Rattle.ristulva_c.proofs.PlainMessages.{plain_allowed, update_allowed}
use Rattle.ristulva_c.proofs.paths.write_without.Goals as goal

pub put_update-requires-clause-allowed : goal.put_update-requires-clause-allowed
put_update-requires-clause-allowed c =
    let frame = c.args.frame in
    subst (λ (b : List ℕ). IsLength kinds.Update (19 + length b)) (sym c.as_slice.ensures) (
    plain_allowed frame.body.now c.fill.new.self c.fill.ensures.shorter c.fill.ensures.longer (
    update_allowed (wide_terms c.args.terms.now) c.args.octets.now frame.kind frame.len frame.body.now (sym c.is_update.ensures ∙ c.if-not-is_update.false) c.requires
    )
    )
