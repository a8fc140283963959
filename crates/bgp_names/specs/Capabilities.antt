-- OPENs: capabilities and optional parameters.
use Rattle.std.specs.Prelude.{ℕ, List, [], ◌∷◌, codes}
use Rattle.bgp_names.specs.Names.{named}

-- the name of a capability, of the registry "Capability Codes"
unfoldable pub capability_name : ℕ → List ℕ
capability_name code = named (
    (1, codes "Multiprotocol Extensions for BGP-4") ∷ (
    (2, codes "Route Refresh Capability for BGP-4") ∷ (
    (3, codes "Outbound Route Filtering Capability") ∷ (
    (5, codes "Extended Next Hop Encoding") ∷ (
    (6, codes "BGP Extended Message") ∷ (
    (7, codes "BGPsec Capability") ∷ (
    (8, codes "Multiple Labels Capability") ∷ (
    (9, codes "BGP Role") ∷ (
    (64, codes "Graceful Restart Capability") ∷ (
    (65, codes "Support for 4-octet AS number capability") ∷ (
    (67, codes "Support for Dynamic Capability (capability specific)") ∷ (
    (68, codes "Multisession BGP Capability") ∷ (
    (69, codes "ADD-PATH Capability") ∷ (
    (70, codes "Enhanced Route Refresh Capability") ∷ (
    (71, codes "Long-Lived Graceful Restart (LLGR) Capability") ∷ (
    (72, codes "Routing Policy Distribution") ∷ (
    (73, codes "FQDN Capability") ∷ (
    (75, codes "Software Version Capability") ∷ (
    (76, codes "PATHS-LIMIT Capability") ∷ (
    (128, codes "Prestandard Route Refresh (deprecated)") ∷ (
    []))))))))))))))))))))) code

-- the name of a type of optional parameter of an OPEN, of the registry "BGP OPEN Optional Parameter Types"
unfoldable pub parameter_name : ℕ → List ℕ
parameter_name kind = named (
    (1, codes "Authentication (deprecated)") ∷ (
    (2, codes "Capabilities") ∷ (
    (255, codes "Extended Length") ∷ (
    [])))) kind
