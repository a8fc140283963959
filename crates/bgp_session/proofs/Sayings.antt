-- What one end sends to the other, in which order, and how it is written.
use Rattle.bgp_session.proofs.Prelude.{◌≡◌, ℕ, Bool, false, List, [], ◌∷◌, ◌++◌, Option, None, Some, Ok, Kind, Notification, Message, octets_of, Context}
use Rattle.bgp_session.proofs.Prelude.{agreement, Settings, own_of, State, why_unsent, told_in, is_told_too_long, Update, HasUpdateRanges}
use Rattle.bgp_msg.specs.Written as written
use Rattle.bgp_open.specs.Written as opens
use Rattle.bgp_update.specs.Written as updates

-- ---- messages

-- an UPDATE comes with the context in which it was written
pub data Said : Type 0 where
  SaidOpen : Said
  SaidKeepalive : Said
  SaidNotification : (why : Notification) → Said
  SaidUpdate : (ctx : Context) (u : Update) → Said

unfoldable pub open_body : Settings → List ℕ
open_body s = opens.canonical (own_of s)

unfoldable pub notification_body : Notification → List ℕ
notification_body why = written.notification_octets why

unfoldable pub update_body : Context → Update → List ℕ
update_body ctx u = updates.written_body ctx (told_in ctx u)

-- what a speaker of these settings sends
abbrev pub message_of : Settings → Said → Message
message_of s SaidOpen = record { kind = Kind.Open; body = open_body s }
message_of s SaidKeepalive = record { kind = Kind.Keepalive; body = [] }
message_of s (SaidNotification why) = record { kind = Kind.Notification; body = notification_body why }
message_of s (SaidUpdate ctx u) = record { kind = Kind.Update; body = update_body ctx u }

unfoldable pub spelling : Settings → Said → List ℕ
spelling s m = octets_of (message_of s m)

abbrev pub spellings : Settings → List Said → List ℕ
spellings s [] = []
spellings s (m ∷ later) = spelling s m ++ spellings s later

-- ---- what is sent

abbrev pub updates_of : Said → List Update
updates_of (SaidUpdate ctx u) = u ∷ []
updates_of _ = []

abbrev pub updates_in : List Said → List Update
updates_in [] = []
updates_in (m ∷ later) = updates_of m ++ updates_in later

-- an UPDATE that a speaker of the settings s may send to one of the settings t, as both agreed
pub record IsTold (wide : Bool) (s t : Settings) (ctx : Context) (u : Update) : Type 0 where
  pub agreed : agreement s (own_of t) ≡ Ok ctx
  pub width : ctx.as4 ≡ wide
  pub sendable : why_unsent ctx u ≡ None
  pub short : is_told_too_long ctx u ≡ false
  pub ranges : HasUpdateRanges u

abbrev pub Fits : Bool → Settings → Settings → Said → Type 0
Fits wide s t SaidOpen = Unit {0}
Fits wide s t SaidKeepalive = Unit {0}
Fits wide s t (SaidNotification why) = why.info.items ≡ []
Fits wide s t (SaidUpdate ctx u) = IsTold wide s t ctx u

-- ---- the order

-- what is expected next
pub data Stage : Type 0 where
  WantsOpen : Stage
  WantsKeepalive : Stage
  Runs : Stage
  Ended : Stage

abbrev pub next : Stage → Said → Option Stage
next WantsOpen SaidOpen = Some WantsKeepalive
next WantsKeepalive SaidKeepalive = Some Runs
next WantsKeepalive (SaidNotification why) = Some Ended
next Runs SaidKeepalive = Some Runs
next Runs (SaidNotification why) = Some Ended
next Runs (SaidUpdate ctx u) = Some Runs
next _ _ = None

-- these messages lead from one stage to another
abbrev pub Follows : Option Stage → List Said → Stage → Type 0
Follows None ms last = ⊥
Follows (Some from) [] last = last ≡ from
Follows (Some from) (m ∷ later) last = Follows (next from m) later last

-- what a session has sent when it is in this state: an OPEN, and after the other's a KEEPALIVE
abbrev pub EndsAt : State → Stage → Type 0
EndsAt State.OpenSent last = last ≡ WantsKeepalive
EndsAt State.OpenConfirm last = last ≡ Runs
EndsAt State.Established last = last ≡ Runs
EndsAt _ last = Unit {0}
