-- A speaker's own OPEN.
use Rattle.std.specs.Prelude.{ℕ, Bool, List, [], ◌∷◌, ◌++◌, if◌then◌else◌}
use Rattle.bgp_numbers.specs.declared.TheConstants.{AS_TRANS}
use Rattle.bgp_numbers.specs.declared.afi.TheConstants.{IPV4, IPV6}
use Rattle.bgp_numbers.specs.declared.safi.TheConstants.{UNICAST}
use Rattle.bgp_open.specs.declared.capability.Capability.{Capability}
use Rattle.bgp_open.specs.declared.capability.Capability.TheVariants.{Multi, As4}
use Rattle.bgp_open.specs.declared.message.Open.{Open}
use Rattle.bgp_open.specs.Open.{is_wide}
use Rattle.bgp_open.specs.Config.{Settings}

-- My Autonomous System: the number, or AS_TRANS for one that needs four octets (RFC 6793, sections 4.1 and 9)
abbrev pub field_for : ℕ → ℕ
field_for number = if is_wide number then AS_TRANS else number

abbrev pub offered : Bool → Capability → List Capability
offered offers capability = if offers then capability ∷ [] else []

-- IPv4 unicast, IPv6 unicast and AS numbers of four octets, each where it is offered (RFC 4760, section 8; RFC 6793, section 4.1)
abbrev pub own_caps : Settings → List Capability
own_caps s = offered s.ip4 (Multi IPV4 UNICAST) ++ (offered s.ip6 (Multi IPV6 UNICAST) ++ offered s.as4 (As4 s.local_as))

-- the OPEN of a speaker
abbrev pub own_of : Settings → Open
own_of s = record { as_field = field_for s.local_as; hold = s.hold; id = s.id; caps = own_caps s }
