-- What is passed on of an OPEN: the capabilities that are understood, so that nothing is agreed on beyond what the cleaned stream supports.
use Rattle.std.specs.Prelude.{Bool, true, false, ◌||◌, List, [], ◌∷◌, if◌then◌else◌}
use Rattle.std.specs.List.{list_any}
use Rattle.bgp_numbers.specs.declared.afi.TheConstants.{IPV4, IPV6}
use Rattle.bgp_numbers.specs.declared.capability.TheConstants.{ROUTE_REFRESH, ENHANCED_ROUTE_REFRESH}
use Rattle.bgp_open.specs.declared.capability.Capability.{Capability}
use Rattle.bgp_open.specs.declared.capability.Capability.TheVariants.{Multi, As4, Other}
use Rattle.bgp_open.specs.declared.message.Open.{Open}
use Rattle.bgp_open.specs.Prelude.{is_unicast}
use Rattle.bgp_terms.specs.declared.refreshes.Refreshes.{Refreshes}
use Rattle.bgp_terms.specs.declared.refreshes.Refreshes.TheVariants as refreshes
use Rattle.bgp_terms.specs.Prelude.{offers_plain}

-- which capabilities aren't passed on any more: each that is understood was before (IPv4 unicast, IPv6 unicast, 4-octet AS numbers); and ROUTE-REFRESH and
-- enhanced ROUTE-REFRESH, which aren't either where they aren't to be offered
pub record Seen : Type 0 where
  pub ip4 : Bool
  pub ip6 : Bool
  pub as4 : Bool
  pub refresh : Bool
  pub enhanced : Bool

abbrev pub none_seen : Seen
none_seen = record { ip4 = false; ip6 = false; as4 = false; refresh = true; enhanced = true }

-- before the first capability of an OPEN that may offer this ROUTE-REFRESH
abbrev pub seen_for : Refreshes → Seen
seen_for refreshes.None = none_seen
seen_for refreshes.Plain = record none_seen { refresh = false }
seen_for refreshes.Enhanced = record none_seen { refresh = false; enhanced = false }

-- the capability is understood (RFC 4760, section 8; RFC 6793, section 3; RFC 2918, section 2; RFC 7313, section 3.1), and the first of its kind
abbrev pub goes_on : Seen → Capability → Bool
goes_on seen (Multi family subsequent) =
    (if seen.ip4 then false else is_unicast IPV4 (Multi family subsequent)) || (if seen.ip6 then false else is_unicast IPV6 (Multi family subsequent))
goes_on seen (As4 number) = if seen.as4 then false else true
goes_on seen (Other code value) =
    (if seen.refresh then false else offers_plain ROUTE_REFRESH (Other code value)) ||
    (if seen.enhanced then false else offers_plain ENHANCED_ROUTE_REFRESH (Other code value))

abbrev pub seen_behind : Seen → Capability → Seen
seen_behind seen (Multi family subsequent) =
    record seen { ip4 = seen.ip4 || is_unicast IPV4 (Multi family subsequent); ip6 = seen.ip6 || is_unicast IPV6 (Multi family subsequent) }
seen_behind seen (As4 number) = record seen { as4 = true }
seen_behind seen (Other code value) =
    record seen {
      refresh = seen.refresh || offers_plain ROUTE_REFRESH (Other code value);
      enhanced = seen.enhanced || offers_plain ENHANCED_ROUTE_REFRESH (Other code value);
    }

-- those that are passed on, in their order
abbrev pub understood_behind : Seen → List Capability → List Capability
understood_behind seen [] = []
understood_behind seen (c ∷ later) =
    if goes_on seen c then c ∷ understood_behind (seen_behind seen c) later else understood_behind (seen_behind seen c) later

abbrev pub understood_with : Refreshes → List Capability → List Capability
understood_with offers caps = understood_behind (seen_for offers) caps

abbrev pub cleaned_open_with : Refreshes → Open → Open
cleaned_open_with offers o = record o { caps = understood_with offers o.caps }

-- where it is to offer no ROUTE-REFRESH
abbrev pub understood : List Capability → List Capability
understood caps = understood_with refreshes.None caps

abbrev pub cleaned_open : Open → Open
cleaned_open o = cleaned_open_with refreshes.None o

abbrev pub is_multi : Capability → Bool
is_multi (Multi family subsequent) = true
is_multi _ = false

-- it offers families, and neither IPv4 nor IPv6 unicast. A speaker without a family is assumed to use IPv4 unicast (RFC 4760, section 8), so
-- dropping all that it offers would change its meaning
abbrev pub lacks_family : Open → Bool
lacks_family o = if list_any is_multi o.caps then (if list_any (is_unicast IPV4) o.caps || list_any (is_unicast IPV6) o.caps then false else true) else false
