use Rattle.bgp_wide.proofs.Pulls.{feeds}
use Rattle.bgp_wide.proofs.decoder.WideDecoder.feed.Goals as goal

pub returns-else-self : goal.returns-else-self
returns-else-self c =
    let inside = c.self.inside in
    feeds c.args.self.now inside.terms inside.framer inside.stopped c.args.piece.now c.self.view_is c.self.invariant.0 c.if-self.false
    c.feed.result c.feed.new.self c.feed.ensures.takes c.feed.ensures.progress c.feed.ensures.appends
