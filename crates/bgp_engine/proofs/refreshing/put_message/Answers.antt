use Rattle.bgp_engine.proofs.Prelude.{IfOk-weaker}
use Rattle.bgp_engine.proofs.Wides.{both_ok, wide_message, wide_refresh}
use Rattle.bgp_engine.proofs.refreshing.put_message.Goals as goal

pub returns-in-Base-clause-writes : goal.returns-in-Base-clause-writes
returns-in-Base-clause-writes g c =
    rw c.in-Base.is
    (IfOk-weaker c.message.result _ _ (λ class w. wide_message _ _ _ _ _ _ _ class _ (g.met.P.Page.plainly c.args.page.now) w) c.message.ensures.writes)

pub returns-in-Refresh-clause-writes : goal.returns-in-Refresh-clause-writes
returns-in-Refresh-clause-writes g c =
    rw c.in-Refresh.is
    (both_ok c.put_refresh.result _ _ _ (λ class told counts. wide_refresh c.args.refreshes (g.P.Page.rules c.args.page.now) _ _ _ _ _ class told counts) c.put_refresh.ensures.told c.put_refresh.ensures.class)
