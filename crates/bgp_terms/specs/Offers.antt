-- What an OPEN offers beyond a context (RFC 5492). A capability whose value has a wrong length, or path identifiers with another Send/Receive than 1
-- to 3, isn't understood as a whole; the order of capabilities doesn't matter, and a repetition has no effect but on families.
use Rattle.std.specs.Prelude.{ℕ, Bool, true, false, ◌&&◌, ◌||◌, ◌==◌, List, [], ◌∷◌, take}
use Rattle.std.specs.Int.{w16, from_be_bytes}
use Rattle.std.specs.List.{list_any}
use Rattle.bgp_numbers.specs.declared.afi.TheConstants.{IPV4, IPV6}
use Rattle.bgp_numbers.specs.declared.capability.TheConstants.{ROUTE_REFRESH, EXTENDED_NEXT_HOP, EXTENDED_MESSAGE, ENHANCED_ROUTE_REFRESH}
use Rattle.bgp_numbers.specs.declared.safi.TheConstants.{UNICAST}
use Rattle.bgp_open.specs.declared.capability.Capability.{Capability}
use Rattle.bgp_open.specs.declared.capability.Capability.TheVariants.{Multi, As4, Other}
use Rattle.bgp_terms.specs.declared.family.Family.{Family}
use Rattle.bgp_terms.specs.declared.offers.Offers.{Offers}
use Rattle.bgp_terms.specs.declared.paths.Role.TheVariants.{Reads, Sends}
use Rattle.bgp_terms.specs.Families.{also_family, families_in, one_or_none, opaque_families, opaque_of}
use Rattle.bgp_terms.specs.Paths.{offers_role}

-- ROUTE-REFRESH, and the demarcation of a refresh; messages of up to 65535 octets; IPv4 routes with an IPv6 next hop; whether path identifiers
-- of IPv4 and of IPv6 unicast routes are received and are sent; and the families beyond these two
pub record Offered : Type 0 where
  pub refresh : Bool
  pub enhanced : Bool
  pub long : Bool
  pub hop6 : Bool
  pub reads4 : Bool
  pub sends4 : Bool
  pub reads6 : Bool
  pub sends6 : Bool
  pub families : List Family

abbrev pub is_nothing : List ℕ → Bool
is_nothing [] = true
is_nothing (octet ∷ later) = false

-- a capability of this code, which has no value
abbrev pub offers_plain : ℕ → Capability → Bool
offers_plain wanted (Other code value) = (code == wanted) && is_nothing value
offers_plain wanted (Multi afi safi) = false
offers_plain wanted (As4 number) = false

-- A row of families, each with the family of its next hops in six octets: AFI 2, SAFI 2, next hop's AFI 2 (RFC 8950, section 4). Where octets are
-- left over, the capability isn't understood.
abbrev pub is_hop_row : List ℕ → Bool
is_hop_row [] = true
is_hop_row (a ∷ b ∷ c ∷ d ∷ e ∷ f ∷ later) = is_hop_row later
is_hop_row _ = false

-- unicast routes of IPv4 can have a next hop of IPv6
abbrev pub is_hop6 : List ℕ → Bool
is_hop6 (a ∷ b ∷ c ∷ d ∷ e ∷ f ∷ []) =
    (from_be_bytes w16 (a ∷ b ∷ []) == IPV4) && ((from_be_bytes w16 (c ∷ d ∷ []) == UNICAST) && (from_be_bytes w16 (e ∷ f ∷ []) == IPV6))
is_hop6 _ = false

abbrev pub has_hop6 : List ℕ → Bool
has_hop6 (a ∷ b ∷ c ∷ d ∷ e ∷ f ∷ later) = is_hop6 (a ∷ b ∷ c ∷ d ∷ e ∷ f ∷ []) || has_hop6 later
has_hop6 _ = false

abbrev pub offers_hop6 : Capability → Bool
offers_hop6 (Other code value) = (code == EXTENDED_NEXT_HOP) && (is_hop_row value && has_hop6 value)
offers_hop6 (Multi afi safi) = false
offers_hop6 (As4 number) = false

-- what capabilities offer together
abbrev pub offered_by : List Capability → Offered
offered_by caps = record {
  refresh = list_any (offers_plain ROUTE_REFRESH) caps;
  enhanced = list_any (offers_plain ENHANCED_ROUTE_REFRESH) caps;
  long = list_any (offers_plain EXTENDED_MESSAGE) caps;
  hop6 = list_any offers_hop6 caps;
  reads4 = list_any (offers_role Reads IPV4) caps;
  sends4 = list_any (offers_role Sends IPV4) caps;
  reads6 = list_any (offers_role Reads IPV6) caps;
  sends6 = list_any (offers_role Sends IPV6) caps;
  families = take 42 (opaque_families caps);
}

-- what `Offers` keeps
abbrev pub offered_in : Offers → Offered
offered_in o = record {
  refresh = o.refresh;
  enhanced = o.enhanced;
  long = o.long;
  hop6 = o.hop6;
  reads4 = o.reads4;
  sends4 = o.sends4;
  reads6 = o.reads6;
  sends6 = o.sends6;
  families = families_in o.families;
}

-- ---- how it is collected: from nothing offered, capability by capability

abbrev pub no_offer : Offered
no_offer = record { refresh = false; enhanced = false; long = false; hop6 = false; reads4 = false; sends4 = false; reads6 = false; sends6 = false; families = [] }

abbrev pub offers_more : Offered → Capability → Offered
offers_more p c = record {
  refresh = p.refresh || offers_plain ROUTE_REFRESH c;
  enhanced = p.enhanced || offers_plain ENHANCED_ROUTE_REFRESH c;
  long = p.long || offers_plain EXTENDED_MESSAGE c;
  hop6 = p.hop6 || offers_hop6 c;
  reads4 = p.reads4 || offers_role Reads IPV4 c;
  sends4 = p.sends4 || offers_role Sends IPV4 c;
  reads6 = p.reads6 || offers_role Reads IPV6 c;
  sends6 = p.sends6 || offers_role Sends IPV6 c;
  families = also_family p.families (one_or_none (opaque_of c));
}

abbrev pub offering_more : Offered → List Capability → Offered
offering_more p [] = p
offering_more p (c ∷ later) = offering_more (offers_more p c) later
