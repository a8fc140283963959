use Rattle.std.proofs.Common.{arith, subst}
use Rattle.bgp_frame.specs.declared.step.Step.TheVariants as step
use Rattle.bgp_frame.specs.Prelude.{FramerValue, ShowsFrontIn}
use Rattle.bgp_frame.proofs.Pulls.{pull_frame, pull_fault}
use Rattle.bgp_frame.proofs.framer_of.FramerOf.look.Goals as goal

pub returns-in-Frame : goal.returns-in-Frame
returns-in-Frame g c =
    let front = subst (λ (v : FramerValue _). ShowsFrontIn (g.G.Grammar.types v.grammar) c.args.piece.now (step.Frame c.in-Frame.frame)) c.self.view_is c.in-Frame.ensures in
    pull_frame (g.G.Grammar.types c.args.self.now.grammar) (g.met.G.Grammar.fine c.args.self.now.grammar) c.args.piece.now c.args.self.now.octets c.held.result c.held.ensures.value (omega arith) c.in-Frame.frame front

pub returns-in-Fault : goal.returns-in-Fault
returns-in-Fault g c =
    let front = subst (λ (v : FramerValue _). ShowsFrontIn (g.G.Grammar.types v.grammar) c.args.piece.now (step.Fault c.in-Fault.fault)) c.self.view_is c.in-Fault.ensures in
    pull_fault (g.G.Grammar.types c.args.self.now.grammar) (g.met.G.Grammar.fine c.args.self.now.grammar) c.args.piece.now c.args.self.now.octets c.held.result c.held.ensures.value (omega arith) c.in-Fault.fault front
