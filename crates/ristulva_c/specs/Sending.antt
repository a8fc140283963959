-- An UPDATE as a session sends it.
use Rattle.std.specs.Prelude.{◌≡◌, ◌<◌, ◌≤◌, ◌⊎◌, ℕ, true, false, List, [], length, Option, None, Some}
use Rattle.bgp_open.specs.declared.context.Context.{Context}
use Rattle.bgp_update.specs.declared.update.Update.{Update}
use Rattle.bgp_update.specs.Prelude.{verdict_of, with_as4}
use Rattle.bgp_machine.specs.declared.action.Action as machine
use Rattle.bgp_machine.specs.declared.state.State.{State}
use Rattle.bgp_machine.specs.Prelude.{is_mixed, is_told_too_long, keepalive_on, IsSent, Machine}
use Rattle.bgp_machine.specs.declared.state.State.TheVariants as state
use Rattle.ristulva_c.specs.declared.sending.Outgoing.{Outgoing}
use Rattle.ristulva_c.specs.declared.sending.Outgoing.TheVariants as outgoing
use Rattle.ristulva_c.specs.declared.status.TheConstants.{MEMORY, MIXED, NO_SESSION, OK, RANGE, REFUSED, STATE, UNWRITABLE}
use Rattle.ristulva_c.specs.Actions.{actions_told}
use Rattle.ristulva_c.specs.Copied.{copied}
use Rattle.ristulva_c.specs.Encode.{taken_of}
use Rattle.ristulva_c.specs.Session.{Answer, IsLeft}

-- a session sends an UPDATE in these octets
pub record IsSentIn (x : Machine) (u : Update) (octets : List ℕ) : Type 0 where
  pub actions : List machine.Action
  pub sends : IsSent x u actions [] octets

-- routes of one kind, whose message would be too long in the form for the peer
abbrev pub IsTooLong : Context → Update → Type 0
IsTooLong ctx u = (is_mixed u ≡ false) × (is_told_too_long ctx u ≡ true)

-- the code's value for it
abbrev pub IsOutgoing : Machine → Context → Option Update → Outgoing → Type 0
IsOutgoing x ctx None outgoing.Refused = Unit {0}
IsOutgoing x ctx None _ = ⊥
IsOutgoing x ctx (Some u) outgoing.Refused = ⊥
IsOutgoing x ctx (Some u) outgoing.Mixed = is_mixed u ≡ true
IsOutgoing x ctx (Some u) outgoing.TooLong = IsTooLong ctx u
IsOutgoing x ctx (Some u) outgoing.Memory = Unit {0}
IsOutgoing x ctx (Some u) (outgoing.Octets octets) = IsSentIn x u octets.items

-- the message is written to the buffer, and the Keepalive Timer is restarted; the session is unchanged
pub record IsWrittenFor (x : Machine) (ctx : Context) (u : Update) (a : Answer) : Type 0 where
  pub octets : List ℕ
  pub sends : IsSentIn x u octets
  pub status : a.status ≡ OK
  pub session : a.new ≡ a.old
  pub actions : a.actions_behind ≡ actions_told (keepalive_on ctx)
  pub message : a.message_behind ≡ copied octets a.message_before
  pub len : a.len_behind ≡ length octets

-- routes of several kinds aren't sent, nor what would be too long, and nothing is changed: nothing else is refused of what is accepted whole
abbrev pub IsKept : Context → Update → Answer → Type 0
IsKept ctx u a = ((is_mixed u ≡ true) × IsLeft MIXED a) ⊎ (IsTooLong ctx u × IsLeft UNWRITABLE a)

-- by what the body is, with 4-octet AS numbers: not accepted whole; or an UPDATE, for which alone an allocation can fail
abbrev pub SendsTaken : Machine → Context → Option Update → Answer → Type 0
SendsTaken x ctx None a = IsLeft REFUSED a
SendsTaken x ctx (Some u) a = IsWrittenFor x ctx u a ⊎ (IsKept ctx u a ⊎ IsLeft MEMORY a)

-- a body is too long to be one, or has this result
abbrev pub SendsBody : Machine → Context → List ℕ → Answer → Type 0
SendsBody x ctx body a =
    ((length body ≤ 4077) × SendsTaken x ctx (taken_of (verdict_of (with_as4 true ctx) body)) a)
    ⊎ ((4077 < length body) × IsLeft RANGE a)

abbrev pub SendsIn : Machine → Option Context → List ℕ → Answer → Type 0
SendsIn x None body a = IsLeft STATE a
SendsIn x (Some ctx) body a = SendsBody x ctx body a

-- the state is tested first: in all but Established the body isn't read
abbrev pub SendsAt : Machine → State → List ℕ → Answer → Type 0
SendsAt x state.Established body a = SendsIn x x.standing.context body a
SendsAt x _ body a = IsLeft STATE a

abbrev pub Sends : Option Machine → List ℕ → Answer → Type 0
Sends None body a = IsLeft NO_SESSION a
Sends (Some x) body a = SendsAt x x.standing.state body a
