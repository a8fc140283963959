-- What a session wants done, in numbers, and the octets that it sends.
use Rattle.std.specs.Prelude.{ℕ, zero, suc, nat_lt, List, [], ◌∷◌, length, Option, None, Some, if◌then◌else◌}
use Rattle.bgp_frame.specs.declared.kind.Kind.TheVariants as kind
use Rattle.bgp_frame.specs.declared.notification.Notification.{Notification}
use Rattle.bgp_frame.specs.Prelude.{octets_of}
use Rattle.bgp_msg.specs.Written as written
use Rattle.bgp_machine.specs.declared.action.Action as machine
use Rattle.bgp_machine.specs.declared.action.Action.TheVariants.{Connect, Close, SendOpen, SendKeepalive, SendNotification, Arm, Disarm, Announce, Withdraw, Flush}
use Rattle.ristulva_c.specs.declared.actions.Action.{Action}
use Rattle.ristulva_c.specs.declared.actions.Actions.{Actions}
use Rattle.ristulva_c.specs.declared.actions.TheConstants.{NOTHING, SEEK, CLOSE, SEND_OPEN, SEND_KEEPALIVE, SEND_NOTIFICATION, ARM, DISARM, ANNOUNCE, WITHDRAW_ROUTES, FLUSH}
use Rattle.ristulva_c.specs.States.{number_of_timer}

-- ---- numbers

abbrev pub plain : ℕ → Action
plain kind = record { kind = kind; timer = 0; seconds = 0; code = 0; subcode = 0 }

abbrev pub no_action : Action
no_action = plain NOTHING

abbrev pub action_told : machine.Action → Action
action_told Connect = plain SEEK
action_told Close = plain CLOSE
action_told SendOpen = plain SEND_OPEN
action_told SendKeepalive = plain SEND_KEEPALIVE
action_told (SendNotification why) = record { kind = SEND_NOTIFICATION; timer = 0; seconds = 0; code = why.code; subcode = why.subcode }
action_told (Arm timer seconds) = record { kind = ARM; timer = number_of_timer timer; seconds = seconds; code = 0; subcode = 0 }
action_told (Disarm timer) = record { kind = DISARM; timer = number_of_timer timer; seconds = 0; code = 0; subcode = 0 }
action_told (Announce update info) = plain ANNOUNCE
action_told (Withdraw routes) = plain WITHDRAW_ROUTES
action_told Flush = plain FLUSH

-- the first action; none where there is none
abbrev pub first_told : List machine.Action → Action
first_told [] = no_action
first_told (action ∷ later) = action_told action

abbrev pub rest_of : List machine.Action → List machine.Action
rest_of [] = []
rest_of (action ∷ later) = later

-- the first n elements of a list: the actions in order, and `NOTHING` after the last
abbrev pub places : ℕ → List machine.Action → List Action
places zero actions = []
places (suc n) actions = first_told actions ∷ places n (rest_of actions)

-- the number of actions
abbrev pub count_of : List machine.Action → ℕ
count_of actions = if nat_lt 5 (length actions) then 5 else length actions

-- the first five actions: a session never wants more at a time, which is the capacity of its sets
abbrev pub actions_told : List machine.Action → Actions
actions_told actions = record { count = count_of actions; list = places 5 actions }

-- ---- octets

abbrev pub keepalive_octets : List ℕ
keepalive_octets = octets_of (record { kind = kind.Keepalive; body = [] })

abbrev pub notification_octets : Notification → List ℕ
notification_octets why = octets_of (record { kind = kind.Notification; body = written.notification_octets why })

-- the message that an action sends, where the speaker's own OPEN has these octets
abbrev pub message_of : List ℕ → machine.Action → Option (List ℕ)
message_of own SendOpen = Some own
message_of own SendKeepalive = Some keepalive_octets
message_of own (SendNotification why) = Some (notification_octets why)
message_of own _ = None

abbrev pub or_else : Option (List ℕ) → List ℕ → List ℕ
or_else None other = other
or_else (Some octets) other = octets

-- the message of the first action that sends one: no set of actions has two that do
abbrev pub octets_sent : List ℕ → List machine.Action → List ℕ
octets_sent own [] = []
octets_sent own (action ∷ later) = or_else (message_of own action) (octets_sent own later)
