-- Address families.
use Rattle.std.specs.Prelude.{ℕ, List, [], ◌∷◌, codes}
use Rattle.bgp_names.specs.Names.{named}

-- the name of an address family, of the registry "Address Family Numbers"
unfoldable pub afi_name : ℕ → List ℕ
afi_name afi = named (
    (1, codes "IPv4") ∷ (
    (2, codes "IPv6") ∷ (
    (25, codes "L2VPN") ∷ (
    (16388, codes "BGP-LS") ∷ (
    []))))) afi

-- the name of a subsequent address family, of the registry "Subsequent Address Family Identifiers (SAFI) Parameters"
unfoldable pub safi_name : ℕ → List ℕ
safi_name safi = named (
    (1, codes "unicast") ∷ (
    (2, codes "multicast") ∷ (
    (4, codes "MPLS labels") ∷ (
    (5, codes "MCAST-VPN") ∷ (
    (65, codes "VPLS") ∷ (
    (70, codes "EVPN") ∷ (
    (71, codes "BGP-LS") ∷ (
    (72, codes "BGP-LS-VPN") ∷ (
    (73, codes "SR Policy") ∷ (
    (128, codes "MPLS-labeled VPN") ∷ (
    (129, codes "multicast VPN") ∷ (
    (132, codes "Route Target constraints") ∷ (
    (133, codes "Flow Specification") ∷ (
    (134, codes "Flow Specification VPN") ∷ (
    []))))))))))))))) safi
