use Rattle.bgp_session.proofs.Reports.{reported_reasons, reported_fronts}
use Rattle.bgp_session.proofs.laws.reports_keep_to_the_laws.Goals as goal

pub returns : goal.returns
returns c = record { notifications = reported_reasons; updates = reported_fronts }
