use Rattle.bgp_engine.proofs.Prelude.{ap}
use Rattle.bgp_engine.proofs.Reading.{answers_as}
use Rattle.bgp_engine.proofs.Walks.{fresh_ready, fresh_report, rests_at}
use Rattle.bgp_engine.proofs.walk.walk_under.Goals as goal

pub run-requires-clause-going : goal.run-requires-clause-going
run-requires-clause-going g c = fresh_ready _ c.new-walk.ensures.typed c.new-walk.ensures.fresh

pub run-requires-clause-ready : goal.run-requires-clause-ready
run-requires-clause-ready g c = fresh_ready _ c.new-walk.ensures.typed c.new-walk.ensures.fresh

pub run-requires-clause-rests : goal.run-requires-clause-rests
run-requires-clause-rests g c = rests_at _ (ap (λ x. x.ended) c.new-walk.ensures.fresh) (fresh_ready _ c.new-walk.ensures.typed c.new-walk.ensures.fresh)

pub returns : goal.returns
returns g c =
    rw (c.new-walk.ensures.page, c.new-walk.ensures.refreshes) at
    (answers_as _ _ c.args.hex _ c.run.result (λ s r q. fresh_report _ s r c.new-walk.ensures.typed c.new-walk.ensures.fresh q.0 q.1) c.run.ensures)
