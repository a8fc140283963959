use Rattle.bgp_session.proofs.Reports.{when_ok, reported_reasons, reported_fronts}
use Rattle.bgp_session.proofs.playing.observe_pair.Goals as goal

pub returns-clause-notifications : goal.returns-clause-notifications
returns-clause-notifications g c = λ honest.
    when_ok (λ report ranges r. reported_reasons c.args.a c.args.b c.args.moves.now report c.know.ensures c.know-2.ensures ranges r) c.run.result (c.run.ensures.ranges honest)
    (c.run.ensures.reported honest)

pub returns-clause-updates : goal.returns-clause-updates
returns-clause-updates g c = λ honest.
    when_ok (λ report ranges r. reported_fronts c.args.a c.args.b c.args.moves.now report c.know.ensures c.know-2.ensures ranges r) c.run.result (c.run.ensures.ranges honest)
    (c.run.ensures.reported honest)
