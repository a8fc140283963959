use Rattle.ristulva_c.proofs.Below.{List, length, subst, sym, ℕ, ◌+◌}
use Rattle.bgp_frame.specs.declared.kind.Kind.TheVariants as kinds
use Rattle.bgp_frame.specs.Prelude.{IsLength}
use Rattle.ristulva_c.proofs.PlainMessages.{plain_allowed}
use Rattle.ristulva_c.proofs.judge_paths.tell_identified.Goals as goal

pub view_received-outcome-requires-clause-plain : goal.view_received-outcome-requires-clause-plain
view_received-outcome-requires-clause-plain c =
    subst (λ (b : List ℕ). IsLength kinds.Update (19 + length b)) (sym c.as_slice.ensures) (
    plain_allowed c.args.body.now c.fill.new.self c.fill.ensures.shorter c.fill.ensures.longer c.requires
    )
