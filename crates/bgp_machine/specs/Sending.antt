-- How a session sends its own routes, and what it refuses to send (RFC 4271, section 9.2; RFC 7606, section 5.1; RFC 6793, section 4.2.2).
use Rattle.std.specs.Prelude.{◌≡◌, ◌⊎◌, ℕ, ◌+◌, ◌/◌, Bool, true, false, nat_lt, List, ◌++◌, length, Option, None, Some, is_some, if◌then◌else◌}
use Rattle.bgp_open.specs.declared.context.Context.{Context}
use Rattle.bgp_update.specs.declared.invalid.Invalid.{Invalid}
use Rattle.bgp_update.specs.declared.update.Update.{Update}
use Rattle.bgp_update.specs.Prelude.{narrowed_update, with_as4, invalid_of}
use Rattle.bgp_msg.specs.declared.message.Message.TheVariants as message
use Rattle.bgp_msg.specs.Prelude.{canonical, is_too_long}
use Rattle.bgp_machine.specs.declared.action.Action.{Action}
use Rattle.bgp_machine.specs.declared.action.Action.TheVariants.{Arm}
use Rattle.bgp_machine.specs.declared.send_fault.SendFault.{SendFault}
use Rattle.bgp_machine.specs.declared.state.State.{State}
use Rattle.bgp_machine.specs.declared.timer.Timer.TheVariants as timer
use Rattle.bgp_machine.specs.Session.{Machine}
use Rattle.bgp_machine.specs.Table.{only_if}

-- ---- what isn't sent

abbrev pub one_if : Bool → ℕ
one_if there = if there then 1 else 0

-- the UPDATE has routes of more than one kind: withdrawn, announced, and in each of the multiprotocol attributes
abbrev pub is_mixed : Update → Bool
is_mixed u = nat_lt 1 (one_if (nat_lt 0 (length u.withdrawn)) + one_if (nat_lt 0 (length u.nlri)) + one_if (is_some u.attrs.mp_reach) + one_if (is_some u.attrs.mp_unreach))

-- this reason, number 9, among the reasons for any message: the lowest number counts
abbrev pub or_mixed : Bool → Option Invalid → Option Invalid
or_mixed false why = why
or_mixed true None = Some Invalid.Mixed
or_mixed true (Some Invalid.AsZero) = Some Invalid.Mixed
or_mixed true (Some Invalid.Twice) = Some Invalid.Mixed
or_mixed true (Some why) = Some why

-- the caller gives routes with 4-octet AS numbers, whatever the session uses
abbrev pub why_unsent : Context → Update → Option Invalid
why_unsent ctx u = or_mixed (is_mixed u) (invalid_of (with_as4 true ctx) u)

-- ---- what is sent

-- a speaker with 2-octet AS numbers is sent narrowed attributes
abbrev pub told_with : Bool → Update → Update
told_with true u = u
told_with false u = narrowed_update u

abbrev pub told_in : Context → Update → Update
told_in ctx u = told_with ctx.as4 u

abbrev pub told_octets : Context → Update → List ℕ
told_octets ctx u = canonical ctx (message.Update (told_in ctx u))

abbrev pub is_told_too_long : Context → Update → Bool
is_told_too_long ctx u = is_too_long ctx (message.Update (told_in ctx u))

-- the first reason not to send, where there is one
abbrev pub unless_invalid : Option Invalid → Bool → Option SendFault
unless_invalid (Some why) long = Some (SendFault.NotValid why)
unless_invalid None long = if long then Some SendFault.TooLong else None

abbrev pub refusal_in : Option Context → Update → Option SendFault
refusal_in None u = Some SendFault.NotEstablished
refusal_in (Some ctx) u = unless_invalid (why_unsent ctx u) (is_told_too_long ctx u)

abbrev pub refusal_at : State → Option Context → Update → Option SendFault
refusal_at State.Established ctx u = refusal_in ctx u
refusal_at _ ctx u = Some SendFault.NotEstablished

abbrev pub refusal_of : Machine → Update → Option SendFault
refusal_of x u = refusal_at x.standing.state x.standing.context u

-- ---- the results

-- the Keepalive Timer is restarted, where there is one
abbrev pub keepalive_on : Context → List Action
keepalive_on ctx = only_if (nat_lt 0 ctx.hold) (Arm timer.Keepalive (ctx.hold / 3))

-- it is sent in the context of the session
pub record IsSent (x : Machine) (u : Update) (actions : List Action) (before after : List ℕ) : Type 0 where
  pub context : Context
  pub agreed : x.standing.context ≡ Some context
  pub allowed : refusal_of x u ≡ None
  pub does : actions ≡ keepalive_on context
  pub appends : after ≡ before ++ told_octets context u

-- an allocation can fail where nothing refuses the UPDATE; with 2-octet AS numbers also where it is too long, as that is known once it is narrowed
pub record LacksMemory (x : Machine) (u : Update) : Type 0 where
  pub context : Context
  pub agreed : x.standing.context ≡ Some context
  pub may_lack : (refusal_of x u ≡ None) ⊎ ((context.as4 ≡ false) × (refusal_of x u ≡ Some SendFault.TooLong))

abbrev pub IsRefused : Machine → Update → SendFault → Type 0
IsRefused x u SendFault.Memory = LacksMemory x u
IsRefused x u fault = refusal_of x u ≡ Some fault

-- ---- steps of the proof: why an UPDATE that is valid isn't appended

abbrev pub IsPutFault : Bool → SendFault → Type 0
IsPutFault long SendFault.TooLong = long ≡ true
IsPutFault long SendFault.Memory = long ≡ false
IsPutFault long _ = ⊥

abbrev pub IsTellFault : Bool → Bool → SendFault → Type 0
IsTellFault as4 long SendFault.TooLong = long ≡ true
IsTellFault as4 long SendFault.Memory = (as4 ≡ false) ⊎ (long ≡ false)
IsTellFault as4 long _ = ⊥
