-- The one written form of a message (RFC 4271, section 4), and which messages aren't written.
use Rattle.std.specs.Prelude.{ℕ, Bool, nat_lt, List, [], ◌∷◌, length, Option, None, Some, is_none, if◌then◌else◌}
use Rattle.bgp_frame.specs.declared.kind.Kind.{Kind}
use Rattle.bgp_frame.specs.Prelude.{octets_of}
use Rattle.bgp_frame.specs.declared.kind.Kind.TheVariants as kind
use Rattle.bgp_frame.specs.declared.notification.Notification.{Notification}
use Rattle.bgp_frame.specs.Frame as frame
use Rattle.bgp_open.specs.declared.context.Context.{Context}
use Rattle.bgp_open.specs.declared.message.Open.{Open}
use Rattle.bgp_open.specs.Written as opens
use Rattle.bgp_update.specs.declared.invalid.Invalid.{Invalid}
use Rattle.bgp_update.specs.declared.invalid.Invalid.TheVariants as invalid
use Rattle.bgp_update.specs.Written as updates
use Rattle.bgp_msg.specs.declared.message.Message.{Message}
use Rattle.bgp_msg.specs.declared.message.Message.TheVariants as message

-- the kind of a message
abbrev pub kind_of : Message → Kind
kind_of (message.Open o) = kind.Open
kind_of (message.Update u) = kind.Update
kind_of (message.Notification n) = kind.Notification
kind_of message.Keepalive = kind.Keepalive

-- the octets of a NOTIFICATION's body
abbrev pub notification_octets : Notification → List ℕ
notification_octets n = n.code ∷ n.subcode ∷ n.info.items

-- the body that is written
abbrev pub body_of : Context → Message → List ℕ
body_of ctx (message.Open o) = opens.canonical o
body_of ctx (message.Update u) = updates.written_body ctx u
body_of ctx (message.Notification n) = notification_octets n
body_of ctx message.Keepalive = []

-- kind and body
abbrev pub written : Context → Message → frame.Message
written ctx m = record { kind = kind_of m; body = body_of ctx m }

-- the whole message
abbrev pub canonical : Context → Message → List ℕ
canonical ctx m = octets_of (written ctx m)

abbrev pub invalid_open : Open → Option Invalid
invalid_open o = if opens.is_bad o then Some invalid.BadOpen else None

-- the refusal of the lowest number, where there is one
abbrev pub invalid_of : Context → Message → Option Invalid
invalid_of ctx (message.Open o) = invalid_open o
invalid_of ctx (message.Update u) = updates.invalid_of ctx u
invalid_of ctx _ = None

abbrev pub is_valid : Context → Message → Bool
is_valid ctx m = is_none (invalid_of ctx m)

-- the message would have more than 4096 octets
abbrev pub is_too_long : Context → Message → Bool
is_too_long ctx m = nat_lt 4096 (length (canonical ctx m))
