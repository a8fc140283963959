use Rattle.bgp_engine.proofs.Prelude.{arith, wanted-bounds}
use Rattle.bgp_frame.specs.Kind.{plain}
use Rattle.bgp_frame.specs.steps.AreTypes.{plain-are}
use Rattle.bgp_engine.proofs.starting.StartingEngine.take.Goals as goal

pub returns-in-Agreed-clause-takes : goal.returns-in-Agreed-clause-takes
returns-in-Agreed-clause-takes g c = rw c.in-Agreed.is c.take.ensures.takes

pub take_first-requires-clause-room : goal.take_first-requires-clause-room
take_first-requires-clause-room g c =
    let first = rw c.in-First.is at c.requires.going in
    let bounds = wanted-bounds plain plain-are c.args.self.now.front in
    let room = rw c.in-First.is at c.requires.room in
    omega (arith, room, first.waits, bounds.1)
