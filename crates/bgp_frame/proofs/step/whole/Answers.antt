use Rattle.std.proofs.Common.{arith}
use Rattle.bgp_frame.proofs.Holding.{shows_more, shows_frame}
use Rattle.bgp_frame.specs.Prelude.{HeaderIn}
use Rattle.bgp_frame.proofs.step.whole.Goals as goal

pub returns-in-None : goal.returns-in-None
returns-in-None g c = (let head : HeaderIn _ = record { kind = c.args.kind; len = c.args.len } in shows_more (g.G.Grammar.types c.args.grammar) (g.met.G.Grammar.fine c.args.grammar) c.args.piece.now head c.requires.long c.requires.head c.in-None.ensures.lookup.0)

pub returns-in-Some : goal.returns-in-Some
returns-in-Some g c =
    let head : HeaderIn _ = record { kind = c.args.kind; len = c.args.len } in
    let there = c.in-Some.ensures.lookup.0 in
    shows_frame (g.G.Grammar.types c.args.grammar) (g.met.G.Grammar.fine c.args.grammar) c.args.piece.now head (λ i. omega (arith, c.type_inv.piece i)) c.requires.head there.1 c.in-Some.body.now there.2
