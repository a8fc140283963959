use Rattle.bgp_frame.proofs.Pulls.{pull_held_frame}
use Rattle.bgp_frame.proofs.framer_of.FramerOf.look_held.Goals as goal

pub returns-in-Frame : goal.returns-in-Frame
returns-in-Frame g c = pull_held_frame (g.G.Grammar.types c.args.self.now.grammar) (g.met.G.Grammar.fine c.args.self.now.grammar) c.args.piece.now c.args.self.now.octets c.in-Frame.frame c.in-Frame.ensures
