-- What a session receives, in numbers, and what it does on it.
use Rattle.std.specs.Prelude.{◌≡◌, ◌<◌, ◌≤◌, ◌⊎◌, ℕ, false, true, List, length, take, drop, Option, None, Some}
use Rattle.bgp_frame.specs.declared.notification.Notification.{Notification}
use Rattle.bgp_frame.specs.Prelude.{notification_of_view, short_value}
use Rattle.bgp_update.specs.Prelude.{parts_of}
use Rattle.bgp_machine.specs.declared.heard.Heard.{Heard}
use Rattle.bgp_machine.specs.Prelude.{IsLook, gone, step_of, Machine, Going, listens}
use Rattle.bgp_machine.specs.declared.heard.Heard.TheVariants as heard
use Rattle.bgp_machine.specs.Look.{Looked}
use Rattle.ristulva_c.specs.declared.hearing.ToldHeard.{ToldHeard}
use Rattle.ristulva_c.specs.declared.judge.TheConstants.{OPEN, UPDATE, NOTIFICATION, KEEPALIVE, WITHDRAW, RESET}
use Rattle.ristulva_c.specs.declared.parts.ToldParts.{ToldParts}
use Rattle.ristulva_c.specs.declared.status.TheConstants.{INCOMPLETE, NO_SESSION, OK, ROOM, STATE}
use Rattle.ristulva_c.specs.Judge.{nothing_said}
use Rattle.ristulva_c.specs.Parts.{parts_told}
use Rattle.ristulva_c.specs.Session.{Answer, IsLeft, IsDone}

-- ---- numbers

abbrev pub number_of_heard : Heard → ℕ
number_of_heard (heard.Open v ctx) = OPEN
number_of_heard heard.Keepalive = KEEPALIVE
number_of_heard (heard.Update v) = UPDATE
number_of_heard (heard.Withdraw v) = WITHDRAW
number_of_heard (heard.Notification n) = NOTIFICATION
number_of_heard (heard.Reset n) = RESET
number_of_heard (heard.Refused n) = RESET

-- the NOTIFICATION that was received, or that ends the session; nothing where there is none
abbrev pub said_in : Heard → Notification
said_in (heard.Notification n) = notification_of_view n
said_in (heard.Reset n) = notification_of_view n
said_in (heard.Refused n) = short_value n
said_in _ = nothing_said

-- the parts of an UPDATE that doesn't end the session, from its body
abbrev pub parts_heard : Heard → List ℕ → ToldParts
parts_heard (heard.Update v) body = parts_told (parts_of body)
parts_heard (heard.Withdraw v) body = parts_told (parts_of body)
parts_heard _ body = parts_told None

abbrev pub heard_told : Looked → List ℕ → ToldHeard
heard_told l octets = record {
  heard = number_of_heard l.heard;
  code = (said_in l.heard).code;
  subcode = (said_in l.heard).subcode;
  len = l.taken;
  parts = parts_heard l.heard (drop 19 (take l.taken octets));
}

-- ---- what is done

-- the caller's memory for what is received
pub record Place : Type 0 where
  pub heard_before : ToldHeard
  pub heard_behind : ToldHeard

-- nothing is received, and nothing is changed
pub record IsUnheard (status : ℕ) (p : Place) (a : Answer) : Type 0 where
  pub left : IsLeft status a
  pub heard : p.heard_behind ≡ p.heard_before

-- the connection isn't up: no octets are accepted
pub record IsDeaf (x : Machine) (p : Place) (a : Answer) : Type 0 where
  pub down : listens x.standing.state ≡ false
  pub unheard : IsUnheard STATE p a

-- the octets are less than a message
pub record Awaits (x : Machine) (octets : List ℕ) (p : Place) (a : Answer) : Type 0 where
  pub up : listens x.standing.state ≡ true
  pub looks : IsLook x octets None
  pub unheard : IsUnheard INCOMPLETE p a

-- what a look finds is reported and done, and the session continues after it
pub record IsHeard (x : Machine) (octets : List ℕ) (p : Place) (a : Answer) : Type 0 where
  pub up : listens x.standing.state ≡ true
  pub found : Looked
  pub looks : IsLook x octets (Some found)
  pub heard : p.heard_behind ≡ heard_told found octets
  pub does : IsDone x.settings (step_of found).actions (gone x (step_of found).next) a

-- the same, before the session continues there: with the status and the session that follow then
abbrev pub IsFoundTold : Machine → List ℕ → Option Going → Place → (ℕ → Machine → Answer) → Type 0
IsFoundTold x octets None p answer = IsLook x octets None × IsUnheard INCOMPLETE p (answer INCOMPLETE x)
IsFoundTold x octets (Some next) p answer = (next.from ≡ x) × (listens x.standing.state ≡ true → IsHeard x octets p (answer OK (gone x next.standing)))

abbrev pub SessionHears : Option Machine → List ℕ → Place → Answer → Type 0
SessionHears None octets p a = IsUnheard NO_SESSION p a
SessionHears (Some x) octets p a = IsDeaf x p a ⊎ (Awaits x octets p a ⊎ IsHeard x octets p a)

-- no more octets than the longest message has are read; a buffer has room for each message that is sent, or nothing is done
abbrev pub HearsFirst : Option Machine → List ℕ → Place → Answer → Type 0
HearsFirst old octets p a = ((4096 ≤ length a.message_before) × SessionHears old (take 4096 octets) p a) ⊎ ((length a.message_before < 4096) × IsUnheard ROOM p a)
