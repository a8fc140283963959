-- Path attributes: types, ORIGIN's values, types of segments.
use Rattle.std.specs.Prelude.{ℕ, List, [], ◌∷◌, codes}
use Rattle.bgp_names.specs.Names.{named}

-- the name of a type of path attribute, of the registry "BGP Path Attributes"
unfoldable pub attribute_name : ℕ → List ℕ
attribute_name kind = named (
    (1, codes "ORIGIN") ∷ (
    (2, codes "AS_PATH") ∷ (
    (3, codes "NEXT_HOP") ∷ (
    (4, codes "MULTI_EXIT_DISC") ∷ (
    (5, codes "LOCAL_PREF") ∷ (
    (6, codes "ATOMIC_AGGREGATE") ∷ (
    (7, codes "AGGREGATOR") ∷ (
    (8, codes "COMMUNITY") ∷ (
    (9, codes "ORIGINATOR_ID") ∷ (
    (10, codes "CLUSTER_LIST") ∷ (
    (14, codes "MP_REACH_NLRI") ∷ (
    (15, codes "MP_UNREACH_NLRI") ∷ (
    (16, codes "EXTENDED COMMUNITIES") ∷ (
    (17, codes "AS4_PATH") ∷ (
    (18, codes "AS4_AGGREGATOR") ∷ (
    (22, codes "PMSI_TUNNEL") ∷ (
    (23, codes "Tunnel Encapsulation") ∷ (
    (25, codes "IPv6 Address Specific Extended Community") ∷ (
    (26, codes "AIGP") ∷ (
    (29, codes "BGP-LS Attribute") ∷ (
    (32, codes "LARGE_COMMUNITY") ∷ (
    (33, codes "BGPsec_Path") ∷ (
    (35, codes "Only to Customer (OTC)") ∷ (
    (36, codes "BGP Domain Path (D-PATH)") ∷ (
    (40, codes "BGP Prefix-SID") ∷ (
    (128, codes "ATTR_SET") ∷ (
    []))))))))))))))))))))))))))) kind

-- the name of a value of ORIGIN (RFC 4271, section 5.1.1)
unfoldable pub origin_name : ℕ → List ℕ
origin_name value = named (
    (0, codes "IGP") ∷ (
    (1, codes "EGP") ∷ (
    (2, codes "INCOMPLETE") ∷ (
    [])))) value

-- the name of a type of AS_PATH segment, of the registry "BGP AS_PATH Segment Types"
unfoldable pub segment_name : ℕ → List ℕ
segment_name kind = named (
    (1, codes "AS_SET") ∷ (
    (2, codes "AS_SEQUENCE") ∷ (
    (3, codes "AS_CONFED_SEQUENCE") ∷ (
    (4, codes "AS_CONFED_SET") ∷ (
    []))))) kind
