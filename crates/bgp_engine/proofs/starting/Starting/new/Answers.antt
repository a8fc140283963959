use Rattle.bgp_engine.proofs.Prelude.{nothing_waits, AreOctets-nil}
use Rattle.bgp_engine.proofs.Walks.{fresh_ready}
use Rattle.bgp_engine.proofs.starting.Starting.new.Goals as goal
use Rattle.bgp_frame.specs.Kind.{plain}
use Rattle.bgp_frame.specs.steps.AreTypes.{plain-are}

pub returns-clause-first : goal.returns-clause-first
returns-clause-first g c =
    rw c.new.ensures
    (record { octets = AreOctets-nil; waits = nothing_waits plain plain-are; ready = fresh_ready _ c.new-2.ensures.typed c.new-2.ensures.fresh; fresh = c.new-2.ensures.fresh })
