-- What a session holds, and what each event and each octet does (RFC 4271, sections 4.1 and 8.2.2).
use Rattle.std.specs.Prelude.{◌≡◌, ◌⊎◌, ℕ, Bool, true, false, List, [], Option, None, Some, option_map, Ok}
use Rattle.arrayvec.specs.ArrayVec.{ArrayVec}
use Rattle.bgp_frame.specs.declared.kind.Kind.{Kind}
use Rattle.bgp_frame.specs.declared.kind.Kind.TheVariants as kind
use Rattle.bgp_frame.specs.declared.notification.Notification.{Notification}
use Rattle.bgp_frame.specs.Prelude.{content_of, Message, octets_of, Hearer, plain}
use Rattle.bgp_frame.specs.Hearing as hearing
use Rattle.bgp_open.specs.declared.context.Context.{Context}
use Rattle.bgp_open.specs.Prelude.{Settings, open_fault, own_of}
use Rattle.bgp_open.specs.Written as opens
use Rattle.bgp_update.specs.Prelude.{verdict_of, has_value}
use Rattle.bgp_msg.specs.Written as messages
use Rattle.bgp_machine.specs.declared.action.Action.{Action}
use Rattle.bgp_machine.specs.declared.event.Event.{Event}
use Rattle.bgp_machine.specs.declared.state.State.TheVariants as state
use Rattle.bgp_machine.specs.Standing.{Standing, idle, listens}
use Rattle.bgp_machine.specs.Table.{Step, happens, hears}

-- the speaker's settings, the state of the session, and the held octets
pub record Machine : Type 0 where
  pub settings : Settings
  pub standing : Standing
  pub held : List ℕ

abbrev pub fresh : Settings → Machine
fresh s = record { settings = s; standing = idle; held = [] }

-- the same session, with these octets held
abbrev pub holding : Machine → List ℕ → Machine
holding x held = record { settings = x.settings; standing = x.standing; held = held }

-- the whole message of the speaker's own OPEN
unfoldable pub own_octets : Settings → List ℕ
own_octets s = octets_of (record { kind = kind.Open; body = opens.canonical (own_of s) })

-- the whole message of a KEEPALIVE
abbrev pub keepalive_octets : List ℕ
keepalive_octets = octets_of (record { kind = kind.Keepalive; body = [] })

-- the whole message of a NOTIFICATION
abbrev pub notification_octets : Notification → List ℕ
notification_octets why = octets_of (record { kind = kind.Notification; body = messages.notification_octets why })

-- ---- events

-- what is held is kept while the connection is up
abbrev pub kept : Bool → List ℕ → List ℕ
kept true held = held
kept false held = []

abbrev pub after_event : Machine → Event → Machine
after_event x event = record {
  settings = x.settings;
  standing = (happens x.standing event).next;
  held = kept (listens (happens x.standing event).next.state) x.held;
}

-- ---- octets

-- what is held is removed as it is acted on
abbrev pub after_step : Machine → Step → Machine
after_step x step = record { settings = x.settings; standing = step.next; held = [] }

-- a session accepts octets while the connection is up, and does what the state table says
abbrev pub hearer : Hearer Kind Machine Step Action
hearer = record {
  types = plain;
  held = λ x. x.held;
  holding = holding;
  listens = λ x. listens x.standing.state;
  comes = λ x what. hears x.settings x.standing what;
  actions = λ step. step.actions;
  behind = after_step;
}

abbrev pub IsFed : Machine → List ℕ → ℕ → Machine → Type 0
IsFed old piece n new = hearing.IsFed hearer old piece n new

-- what is done on what is held, where it is whole
abbrev pub judged : Machine → Option Step
judged x = hearing.judged hearer x

-- nothing is done where what is held is incomplete
abbrev pub IsJudged : Machine → Option (ArrayVec Action) → Machine → Type 0
IsJudged old found new = hearing.IsJudged hearer old (option_map (λ actions. actions.items) found) new

-- what can need an allocation: an OPEN without fault in OpenSent, or an UPDATE that doesn't end the session in Established
pub record OpenTakesMemory (x : Standing) (m : Message) : Type 0 where
  pub in_open_sent : x.state ≡ state.OpenSent
  pub is_open : m.kind ≡ kind.Open
  pub no_fault : open_fault m.body ≡ None

pub record UpdateTakesMemory (x : Standing) (m : Message) : Type 0 where
  pub in_established : x.state ≡ state.Established
  pub is_update : m.kind ≡ kind.Update
  pub context : Context
  pub has_context : x.context ≡ Some context
  pub no_reset : has_value (verdict_of context m.body) ≡ true

abbrev pub TakesMemory : Standing → Message → Type 0
TakesMemory x m = OpenTakesMemory x m ⊎ UpdateTakesMemory x m

pub record HeldTakesMemory (old : Machine) : Type 0 where
  pub message : Message
  pub is_held : content_of old.held ≡ Some (Ok message)
  pub takes : TakesMemory old.standing message

-- where a session continues after a look: the whole session as it was at the look, and its state after it
pub record Going : Type 0 where
  pub from : Machine
  pub standing : Standing
