-- Families of routes beyond IPv4 and IPv6 unicast: at most 42, the number that the optional parameters of an OPEN can offer, 255 octets at 6 for
-- each (RFC 4271, section 4.2; RFC 4760, section 8).
use Rattle.std.specs.Prelude.{Bool, ◌&&◌, ◌||◌, ◌==◌, List, [], ◌∷◌, ◌++◌, take, Option, None, Some, if◌then◌else◌}
use Rattle.std.specs.List.{filter, list_any}
use Rattle.bgp_numbers.specs.declared.afi.TheConstants.{IPV4, IPV6}
use Rattle.bgp_numbers.specs.declared.safi.TheConstants.{UNICAST}
use Rattle.bgp_open.specs.declared.capability.Capability.{Capability}
use Rattle.bgp_open.specs.declared.capability.Capability.TheVariants.{Multi, As4, Other}
use Rattle.bgp_terms.specs.declared.families.Families.{Families}
use Rattle.bgp_terms.specs.declared.family.Family.{Family}

-- the families, in order: one that is offered twice is kept twice
abbrev pub families_in : Families → List Family
families_in fs = take fs.len fs.list

abbrev pub is_family : Family → Family → Bool
is_family a b = (a.afi == b.afi) && (a.safi == b.safi)

abbrev pub has_family : List Family → Family → Bool
has_family fs family = list_any (λ f. is_family family f) fs

-- one more, where there is room
abbrev pub also_family : List Family → List Family → List Family
also_family fs more = take 42 (fs ++ more)

-- the families of the reader that the sender offers too, in the reader's order
abbrev pub shared_families : List Family → List Family → List Family
shared_families reader sender = filter (has_family sender) reader

-- the family that a capability offers, unless it is IPv4 or IPv6 unicast
abbrev pub opaque_of : Capability → Option Family
opaque_of (Multi afi safi) = if (safi == UNICAST) && ((afi == IPV4) || (afi == IPV6)) then None else Some (record { afi = afi; safi = safi })
opaque_of (As4 number) = None
opaque_of (Other code value) = None

abbrev pub one_or_none : Option Family → List Family
one_or_none None = []
one_or_none (Some family) = family ∷ []

abbrev pub opaque_families : List Capability → List Family
opaque_families [] = []
opaque_families (c ∷ later) = one_or_none (opaque_of c) ++ opaque_families later

-- ---- how the families that both offer are found, one by one

abbrev pub sharing : (Family → Bool) → List Family → List Family → List Family
sharing test fs [] = fs
sharing test fs (family ∷ later) = sharing test (if test family then also_family fs (family ∷ []) else fs) later
