use Rattle.bgp_machine.proofs.Cuttings.{fresh_rests, event_rests}
use Rattle.bgp_machine.proofs.laws.events_leave_nothing_to_do.Goals as goal

pub returns : goal.returns
returns c = record { fresh = fresh_rests; event = event_rests }
