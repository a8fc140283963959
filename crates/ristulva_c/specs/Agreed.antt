-- What both speakers of a session agreed on, and the parameters of the peer's OPEN.
use Rattle.std.specs.Prelude.{◌≡◌, ℕ, Bool, Option, None, Some, is_some, if◌then◌else◌}
use Rattle.bgp_open.specs.declared.context.Context.{Context}
use Rattle.bgp_open.specs.Prelude.{Said, number_of}
use Rattle.bgp_machine.specs.Prelude.{Machine, own_octets}
use Rattle.ristulva_c.specs.declared.agreed.ToldPeer.{ToldPeer}
use Rattle.ristulva_c.specs.declared.context.SessionContext.{SessionContext}
use Rattle.ristulva_c.specs.declared.status.TheConstants.{NO_SESSION, OK, STATE}
use Rattle.ristulva_c.specs.Text.{Writing, IsLeft, IsWritten}

abbrev pub one_if : Bool → ℕ
one_if holds = if holds then 1 else 0

abbrev pub context_said : Context → SessionContext
context_said ctx = record { internal = one_if ctx.internal; as4 = one_if ctx.as4; ip4 = one_if ctx.ip4; ip6 = one_if ctx.ip6 }

abbrev pub peer_said : Said → ToldPeer
peer_said p = record { as_number = number_of p; id = p.id; hold = p.hold; as4 = one_if (is_some p.as4); ip4 = one_if p.ip4; ip6 = one_if p.ip6 }

-- the context is written, with its Hold Time; where there is none, nothing is written
abbrev pub IsAgreed : Option Context → ℕ → SessionContext → SessionContext → ℕ → ℕ → Type 0
IsAgreed None status before behind hold_before hold_behind = (status ≡ STATE) × (behind ≡ before) × (hold_behind ≡ hold_before)
IsAgreed (Some ctx) status before behind hold_before hold_behind = (status ≡ OK) × (behind ≡ context_said ctx) × (hold_behind ≡ ctx.hold)

abbrev pub IsContextTold : Option Machine → ℕ → SessionContext → SessionContext → ℕ → ℕ → Type 0
IsContextTold None status before behind hold_before hold_behind = (status ≡ NO_SESSION) × (behind ≡ before) × (hold_behind ≡ hold_before)
IsContextTold (Some x) status before behind hold_before hold_behind = IsAgreed x.standing.context status before behind hold_before hold_behind

-- the parameters of the peer's OPEN are written; where none is accepted, nothing is
abbrev pub IsKnown : Option Said → ℕ → ToldPeer → ToldPeer → Type 0
IsKnown None status before behind = (status ≡ STATE) × (behind ≡ before)
IsKnown (Some p) status before behind = (status ≡ OK) × (behind ≡ peer_said p)

abbrev pub IsPeerTold : Option Machine → ℕ → ToldPeer → ToldPeer → Type 0
IsPeerTold None status before behind = (status ≡ NO_SESSION) × (behind ≡ before)
IsPeerTold (Some x) status before behind = IsKnown x.standing.peer status before behind

-- the message of the own OPEN is written
abbrev pub IsOpenTold : Option Machine → Writing → Type 0
IsOpenTold None w = IsLeft NO_SESSION w
IsOpenTold (Some x) w = IsWritten (own_octets x.settings) w

-- the codes of the peer's capabilities are written, in ascending order; where none is accepted, nothing is
abbrev pub AreCodes : Option Said → Writing → Type 0
AreCodes None w = IsLeft STATE w
AreCodes (Some p) w = IsWritten p.codes w

abbrev pub IsCodesTold : Option Machine → Writing → Type 0
IsCodesTold None w = IsLeft NO_SESSION w
IsCodesTold (Some x) w = AreCodes x.standing.peer w
