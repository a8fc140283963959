-- Families whose unicast routes have path identifiers (RFC 7911, section 4).
use Rattle.std.specs.Prelude.{ℕ, not, ◌==◌, List, Option, None, Some, if◌then◌else◌}
use Rattle.bgp_numbers.specs.declared.afi.TheConstants.{IPV4, IPV6}
use Rattle.bgp_numbers.specs.declared.safi.TheConstants.{UNICAST}
use Rattle.bgp_attr.specs.Prelude.{afi_of, safi_of}
use Rattle.bgp_terms.specs.Prelude.{Agreed}
use Rattle.bgp_paths.specs.declared.families.PathFamilies.{PathFamilies}
use Rattle.bgp_paths.specs.declared.families.Width.{Width}
use Rattle.bgp_paths.specs.declared.families.Width.TheVariants.{Ip4, Ip6}

abbrev pub path_families : Agreed → PathFamilies
path_families t = record { ip4 = t.paths4; ip6 = t.paths6 }

-- the family that the value of an MP_REACH_NLRI or MP_UNREACH_NLRI begins with, where its routes have path identifiers
abbrev pub identified : PathFamilies → List ℕ → Option Width
identified f value =
    if not (safi_of value == UNICAST) then None else (
    if afi_of value == IPV4 then (if f.ip4 then Some Ip4 else None) else (
    if afi_of value == IPV6 then (if f.ip6 then Some Ip6 else None) else
    None))

-- the length of an address
abbrev pub width_of : Width → ℕ
width_of Ip4 = 4
width_of Ip6 = 16
