-- The lines of COMMUNITIES and LARGE_COMMUNITY.
use Rattle.std.specs.Prelude.{ℕ, ◌/◌, ◌%◌, List, [], ◌∷◌, ◌++◌, slice_index, codes}
use Rattle.bgp_names.specs.Names.{named}
use Rattle.bgp_text.specs.Below.{flat_map, decimal}

-- a community after a space: its upper 16 bits, a colon, and its lower 16 bits
abbrev pub community_text : ℕ → List ℕ
community_text n = codes " " ++ (decimal (n / 65536) ++ (codes ":" ++ decimal (n % 65536)))

abbrev pub communities_line : List ℕ → List ℕ
communities_line values = codes "  communities" ++ (flat_map community_text values ++ 10 ∷ [])

-- a large community after a space: its three numbers, with colons between them
abbrev pub large_text : List ℕ → List ℕ
large_text c = codes " " ++ (decimal (slice_index c 0) ++ (codes ":" ++ (decimal (slice_index c 1) ++ (codes ":" ++ decimal (slice_index c 2)))))

abbrev pub large_line : List (List ℕ) → List ℕ
large_line values = codes "  large" ++ (flat_map large_text values ++ 10 ∷ [])

-- the well-known communities (IANA's registry "BGP Well-known Communities")
unfoldable pub community_name : ℕ → List ℕ
community_name n = named (
    (4294901760, codes "GRACEFUL_SHUTDOWN") ∷ (
    (4294901761, codes "ACCEPT_OWN") ∷ (
    (4294901766, codes "LLGR_STALE") ∷ (
    (4294901767, codes "NO_LLGR") ∷ (
    (4294902426, codes "BLACKHOLE") ∷ (
    (4294967041, codes "NO_EXPORT") ∷ (
    (4294967042, codes "NO_ADVERTISE") ∷ (
    (4294967043, codes "NO_EXPORT_SUBCONFED") ∷ (
    (4294967044, codes "NOPEER") ∷ []))))))))) n
