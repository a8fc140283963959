-- What a session wants done, as views of the octets that it concerns.
use Rattle.std.specs.Prelude.{Bool, true, false}
use Rattle.bgp_frame.specs.Prelude.{notification_of_view}
use Rattle.bgp_update.specs.Prelude.{onward_of, rebuilt, routes_value, update_value}
use Rattle.bgp_machine.specs.declared.action.Action.{Action}
use Rattle.bgp_machine.specs.declared.action_view.ActionView.{ActionView}

-- the action: an announcement is the UPDATE as it is passed on, with the path in 4-octet AS numbers
abbrev pub action_of : ActionView → Action
action_of ActionView.Connect = Action.Connect
action_of ActionView.Close = Action.Close
action_of ActionView.SendOpen = Action.SendOpen
action_of ActionView.SendKeepalive = Action.SendKeepalive
action_of (ActionView.SendNotification n) = Action.SendNotification (notification_of_view n)
action_of (ActionView.Arm timer seconds) = Action.Arm timer seconds
action_of (ActionView.Disarm timer) = Action.Disarm timer
action_of (ActionView.Announce v) = Action.Announce (onward_of (update_value v.now)) (rebuilt (update_value v.now).attrs)
action_of (ActionView.Withdraw v) = Action.Withdraw (routes_value v.now)
action_of ActionView.Flush = Action.Flush

-- the actions that need an allocation
abbrev pub takes_memory : Action → Bool
takes_memory (Action.Announce update info) = true
takes_memory (Action.Withdraw routes) = true
takes_memory _ = false
