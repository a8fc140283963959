-- What an OPEN says, in numbers (RFC 4271, section 4.2).
use Rattle.std.specs.Prelude.{◌≡◌, ℕ, Bool, List, Option, None, Some, Result, Ok, Err, if◌then◌else◌}
use Rattle.bgp_numbers.specs.declared.afi.TheConstants.{IPV4, IPV6}
use Rattle.bgp_frame.specs.declared.kind.Kind.{Kind}
use Rattle.bgp_frame.specs.Step.{Step}
use Rattle.bgp_frame.specs.Prelude.{ShowsFront}
use Rattle.bgp_frame.specs.declared.kind.Kind.TheVariants as kind
use Rattle.bgp_frame.specs.declared.step.Step.TheVariants as step
use Rattle.bgp_open.specs.declared.capability.Capability.{Capability}
use Rattle.bgp_open.specs.declared.context.Context.{Context}
use Rattle.bgp_open.specs.declared.fault.OpenFault.{OpenFault}
use Rattle.bgp_open.specs.declared.message.Open.{Open}
use Rattle.bgp_open.specs.Prelude.{peer_as_of, offers_as4, offers_unicast, reading_of}
use Rattle.bgp_msg.specs.declared.message.Message.TheVariants as message
use Rattle.bgp_msg.specs.declared.outcome.Outcome.{Outcome}
use Rattle.bgp_msg.specs.Prelude.{out_of}
use Rattle.bgp_msg.specs.declared.outcome.Outcome.TheVariants as outcome
use Rattle.ristulva_c.specs.declared.capabilities.Capabilities.{Capabilities}
use Rattle.ristulva_c.specs.declared.opens.OpenFields.{OpenFields}
use Rattle.ristulva_c.specs.declared.status.TheConstants.{INCOMPLETE, OK, REFUSED}
use Rattle.ristulva_c.specs.Capabilities.{IsCapabilities, capabilities_left}

abbrev pub flag_of : Bool → ℕ
flag_of is = if is then 1 else 0

-- a cursor over the capabilities of an OPEN of this length: its parameters follow the header's 19 octets and the
-- body's first ten, and none of them is begun
abbrev pub cursor_of : ℕ → Capabilities
cursor_of len = record { at = 29; stop = 29; end = len }

-- an OPEN whose message has this length
abbrev pub open_told : ℕ → Open → OpenFields
open_told len o = record {
  as_number = peer_as_of o;
  as_field = o.as_field;
  hold = o.hold;
  id = o.id;
  as4 = flag_of (offers_as4 o);
  ip4 = flag_of (offers_unicast IPV4 o);
  ip6 = flag_of (offers_unicast IPV6 o);
  capabilities = cursor_of len;
}

-- the OPEN that an outcome accepts
abbrev pub accepted : Outcome → Option Open
accepted (outcome.Took (message.Open o) notes) = Some o
accepted (outcome.Took (message.Update u) notes) = None
accepted (outcome.Took (message.Notification n) notes) = None
accepted (outcome.Took message.Keepalive notes) = None
accepted (outcome.Withdraw routes notes) = None
accepted (outcome.Reset n) = None

-- nothing is changed
abbrev pub IsKept : ℕ → ℕ → OpenFields → OpenFields → Type 0
IsKept answer status before behind = (status ≡ answer) × (behind ≡ before)

-- an OPEN that is accepted is written, by the length of its message, and else nothing
abbrev pub TellsOpen : ℕ → Option Open → ℕ → OpenFields → OpenFields → Type 0
TellsOpen len (Some o) status before behind = (status ≡ OK) × (behind ≡ open_told len o)
TellsOpen len None status before behind = IsKept REFUSED status before behind

-- by what the octets begin with: less than a message; a message, and its outcome in any context; or a header with a fault
abbrev pub Tells : Step → ℕ → OpenFields → OpenFields → Type 0
Tells step.More status before behind = IsKept INCOMPLETE status before behind
Tells (step.Frame f) status before behind = (ctx : Context) → TellsOpen f.len (accepted (out_of ctx (record { kind = f.kind; body = f.body.now }))) status before behind
Tells (step.Fault fault) status before behind = IsKept REFUSED status before behind

-- a cursor lies in the octets, and gives these capabilities
pub record Gives (octets : List ℕ) (caps : List Capability) (cursor : Capabilities) : Type 0 where
  pub lies : IsCapabilities octets cursor
  pub gives : capabilities_left octets cursor ≡ caps

-- the reported cursor of an OPEN gives its capabilities
abbrev pub CapabilitiesLie : List ℕ → Step → Type 0
CapabilitiesLie octets (step.Frame f) = (ctx : Context) (o : Open) → accepted (out_of ctx (record { kind = f.kind; body = f.body.now })) ≡ Some o → Gives octets o.caps (cursor_of f.len)
CapabilitiesLie octets step.More = Unit {0}
CapabilitiesLie octets (step.Fault fault) = Unit {0}

-- what the OPEN that octets begin with says is written
pub record IsOpened (octets : List ℕ) (status : ℕ) (before behind : OpenFields) : Type 0 where
  pub found : Step
  pub shows : ShowsFront octets found
  pub tells : Tells found status before behind
  pub lie : CapabilitiesLie octets found

-- the OPEN that a body of a message is, where it has no fault
abbrev pub read_in : Result Open OpenFault → Option Open
read_in (Ok o) = Some o
read_in (Err fault) = None

abbrev pub accepted_in : Kind → List ℕ → Option Open
accepted_in kind.Open body = read_in (reading_of body)
accepted_in _ body = None
