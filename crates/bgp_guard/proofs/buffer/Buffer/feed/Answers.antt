use Rattle.bgp_guard.proofs.Prelude.{sym, subst, WaitsIn}
use Rattle.bgp_frame.specs.declared.grammar.WideGrammar.{WideGrammar}
use Rattle.bgp_frame.specs.Prelude.{wide_types}
use Rattle.bgp_guard.specs.Guard.{types}
use Rattle.bgp_guard.proofs.buffer.Buffer.feed.Goals as goal

pub returns-clause-progress : goal.returns-clause-progress
returns-clause-progress c =
    λ waits. c.feed.ensures.progress
    (subst (λ (g : WideGrammar). WaitsIn (wide_types g) c.self.inside.framer.octets) (sym c.self.invariant) (subst (WaitsIn types) (sym c.self.view_is) waits))
