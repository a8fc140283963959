use Rattle.bgp_guard.proofs.Prelude.{ℕ, List, subst}
use Rattle.bgp_frame.specs.declared.grammar.WideGrammar.{WideGrammar}
use Rattle.bgp_frame.specs.Prelude.{ShowsStepIn, wide_types}
use Rattle.bgp_guard.specs.Guard.{types}
use Rattle.bgp_guard.proofs.buffer.Buffer.step.Goals as goal

pub returns : goal.returns
returns c =
    subst (λ (held : List ℕ). ShowsStepIn types held c.step.result) c.self.view_is
    (subst (λ (g : WideGrammar). ShowsStepIn (wide_types g) c.self.inside.framer.octets c.step.result) c.self.invariant c.step.ensures)
