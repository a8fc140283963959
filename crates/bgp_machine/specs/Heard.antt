-- What a session makes of what it receives, as views of it.
use Rattle.std.specs.Prelude.{◌≡◌, Bool, true, false, [], ◌∷◌, Option, None, Some, Ok, Err}
use Rattle.bgp_frame.specs.declared.fault.HeadFault.{HeadFault}
use Rattle.bgp_frame.specs.Prelude.{Message, notification_of_view, short_value}
use Rattle.bgp_frame.specs.declared.kind.Kind.TheVariants as kind
use Rattle.bgp_open.specs.declared.context.Context.{Context}
use Rattle.bgp_open.specs.Prelude.{agreement, Settings, reading_of, open_value, said_by}
use Rattle.bgp_update.specs.declared.verdict.Verdict.{Verdict}
use Rattle.bgp_update.specs.Prelude.{onward_of, rebuilt, verdict_of, notes_value, routes_value, update_value}
use Rattle.bgp_msg.specs.Prelude.{notification_in}
use Rattle.bgp_machine.specs.declared.action.Action.TheVariants.{Close, Announce, Withdraw}
use Rattle.bgp_machine.specs.declared.heard.Heard.{Heard}
use Rattle.bgp_machine.specs.declared.state.State.{State}
use Rattle.bgp_machine.specs.declared.state.State.TheVariants.{OpenSent, OpenConfirm, Established}
use Rattle.bgp_machine.specs.Session.{TakesMemory}
use Rattle.bgp_machine.specs.Standing.{Standing, listens}
use Rattle.bgp_machine.specs.Table.{Step, accepted, go, hears, hold_on, leave, reset}

-- what is done on receiving it
abbrev pub on_heard : Standing → Heard → Step
on_heard x (Heard.Open v ctx) = accepted x (said_by (open_value v)) ctx
on_heard x Heard.Keepalive = go x (hold_on x.context) Established
on_heard x (Heard.Update v) = go x (Announce (onward_of (update_value v.now)) (rebuilt (update_value v.now).attrs) ∷ hold_on x.context) Established
on_heard x (Heard.Withdraw v) = go x (Withdraw (routes_value v.now) ∷ hold_on x.context) Established
on_heard x (Heard.Notification n) = leave x (Close ∷ [])
on_heard x (Heard.Reset n) = reset x (notification_of_view n)
on_heard x (Heard.Refused n) = reset x (short_value n)

-- in which state it can be received
abbrev pub suits : State → Heard → Bool
suits OpenSent (Heard.Open v ctx) = true
suits OpenConfirm Heard.Keepalive = true
suits Established Heard.Keepalive = true
suits Established (Heard.Update v) = true
suits Established (Heard.Withdraw v) = true
suits _ (Heard.Notification n) = true
suits _ (Heard.Reset n) = true
suits _ (Heard.Refused n) = true
suits _ _ = false

-- it has routes
abbrev pub has_routes : Heard → Bool
has_routes (Heard.Update v) = true
has_routes (Heard.Withdraw v) = true
has_routes _ = false

-- the views are those of a verdict
abbrev pub SaysVerdict : Verdict → Heard → Type 0
SaysVerdict says (Heard.Update v) = says ≡ Verdict.Take (update_value v.now) (notes_value v.now)
SaysVerdict says (Heard.Withdraw v) = says ≡ Verdict.Withdraw (routes_value v.now) (notes_value v.now)
SaysVerdict says (Heard.Reset n) = says ≡ Verdict.Reset (notification_of_view n)
SaysVerdict says _ = ⊥

-- the views are those of a message's body
abbrev pub IsSaid : Settings → Standing → Message → Heard → Type 0
IsSaid s x m (Heard.Open v ctx) = (m.kind ≡ kind.Open) × (reading_of m.body ≡ Ok (open_value v)) × (agreement s (open_value v) ≡ Ok ctx)
IsSaid s x m Heard.Keepalive = m.kind ≡ kind.Keepalive
IsSaid s x m (Heard.Update v) = (ctx : Context) → x.context ≡ Some ctx → SaysVerdict (verdict_of ctx m.body) (Heard.Update v)
IsSaid s x m (Heard.Withdraw v) = (ctx : Context) → x.context ≡ Some ctx → SaysVerdict (verdict_of ctx m.body) (Heard.Withdraw v)
IsSaid s x m (Heard.Notification n) = (m.kind ≡ kind.Notification) × (notification_of_view n ≡ notification_in m.body)
IsSaid s x m (Heard.Reset n) = Unit {0}
IsSaid s x m (Heard.Refused n) = Unit {0}

-- what a session makes of a message that it receives
pub record Hears (s : Settings) (x : Standing) (m : Message) (h : Heard) : Type 0 where
  pub up : listens x.state ≡ true
  pub does : on_heard x h ≡ hears s x (Ok m)
  pub suits : suits x.state h ≡ true
  pub said : IsSaid s x m h
  pub memory : has_routes h ≡ true → TakesMemory x m

abbrev pub IsHeardOf : Settings → Standing → Message → Option Heard → Type 0
IsHeardOf s x m (Some h) = Hears s x m h
IsHeardOf s x m None = listens x.state ≡ false

-- what it makes of a header with a fault
pub record HearsFault (x : Standing) (fault : HeadFault) (h : Heard) : Type 0 where
  pub up : listens x.state ≡ true
  pub does : (s : Settings) → on_heard x h ≡ hears s x (Err fault)
  pub suits : suits x.state h ≡ true
  pub none : has_routes h ≡ false

abbrev pub IsFaultOf : Standing → HeadFault → Option Heard → Type 0
IsFaultOf x fault (Some h) = HearsFault x fault h
IsFaultOf x fault None = listens x.state ≡ false
