-- The value that a borrowed outcome represents.
use Rattle.std.specs.Prelude.{Bool, true, false, []}
use Rattle.bgp_frame.specs.Prelude.{notification_of_view}
use Rattle.bgp_open.specs.Prelude.{open_value}
use Rattle.bgp_update.specs.Prelude.{update_value, notes_value, routes_value}
use Rattle.bgp_msg.specs.declared.message.Message.TheVariants as message
use Rattle.bgp_msg.specs.declared.outcome.Outcome.{Outcome}
use Rattle.bgp_msg.specs.declared.outcome.Outcome.TheVariants as outcome
use Rattle.bgp_msg.specs.declared.outcome_view.OutcomeView.{OutcomeView}
use Rattle.bgp_msg.specs.declared.outcome_view.OutcomeView.TheVariants as view

abbrev pub outcome_value : OutcomeView → Outcome
outcome_value (view.Open v) = outcome.Took (message.Open (open_value v)) []
outcome_value (view.Update v) = outcome.Took (message.Update (update_value v.now)) (notes_value v.now)
outcome_value (view.Notification n) = outcome.Took (message.Notification (notification_of_view n)) []
outcome_value view.Keepalive = outcome.Took message.Keepalive []
outcome_value (view.Withdraw v) = outcome.Withdraw (routes_value v.now) (notes_value v.now)
outcome_value (view.Reset n) = outcome.Reset (notification_of_view n)

-- an owned value of it allocates: an OPEN's capabilities, an UPDATE's routes, attributes and notes
abbrev pub has_lists : Outcome → Bool
has_lists (outcome.Took (message.Open o) notes) = true
has_lists (outcome.Took (message.Update u) notes) = true
has_lists (outcome.Took (message.Notification n) notes) = false
has_lists (outcome.Took message.Keepalive notes) = false
has_lists (outcome.Withdraw routes notes) = true
has_lists (outcome.Reset n) = false
