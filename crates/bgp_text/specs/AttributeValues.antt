-- The values of unrecognised attributes in words: only printed, no verdict depends on them.
use Rattle.std.specs.Prelude.{ℕ, ◌%◌, ◌==◌, ◌&&◌, nat_lt, List, [], ◌∷◌, ◌++◌, codes, if◌then◌else◌}
use Rattle.std.specs.Int.{w16, w32, w64, from_be_bytes}
use Rattle.bgp_text.specs.Below.{decimal, ipv4_address_text}
use Rattle.bgp_text.specs.FieldValues.{address_text, number_in}
use Rattle.bgp_text.specs.CapabilityValues.{further}
use Rattle.bgp_text.specs.JsonAddress.{ip6_text}

-- the clusters of CLUSTER_LIST (RFC 4456, section 8)
abbrev pub clusters_text : List ℕ → List ℕ
clusters_text (a ∷ b ∷ c ∷ d ∷ rest) = address_text (a ∷ b ∷ c ∷ d ∷ []) ++ clusters_text rest
clusters_text b = []

-- an AS number of four octets
abbrev pub as_text : List ℕ → List ℕ
as_text (a ∷ b ∷ c ∷ d ∷ []) = codes " AS " ++ decimal (number_in (a ∷ b ∷ c ∷ d ∷ []))
as_text b = []

-- the metric of AIGP: a TLV of type 1 and of eleven octets (RFC 7311, section 3)
abbrev pub metric_text : List ℕ → List ℕ
metric_text (t ∷ u ∷ v ∷ a ∷ b ∷ c ∷ d ∷ e ∷ f ∷ g ∷ h ∷ []) =
    if (t == 1 && u == 0) && v == 11 then codes " metric " ++ decimal (from_be_bytes w64 (a ∷ b ∷ c ∷ d ∷ e ∷ f ∷ g ∷ h ∷ [])) else []
metric_text b = []

-- ---- EXTENDED COMMUNITIES (RFC 4360, section 3; RFC 5668)

-- the sub-types that these types share
abbrev pub subtype_text : ℕ → List ℕ
subtype_text s =
    if s == 2 then codes " route target " else (
    if s == 3 then codes " route origin " else
    codes " subtype " ++ (decimal s ++ codes " "))

-- the owner of the community, and its number: an AS number of two octets and a number of four, an address and a number of two, or an AS number of
-- four and a number of two
abbrev pub owned_text : ℕ → List ℕ → List ℕ
owned_text t (a ∷ b ∷ c ∷ d ∷ e ∷ f ∷ []) =
    if t == 0 then decimal (from_be_bytes w16 (a ∷ b ∷ [])) ++ (codes ":" ++ decimal (from_be_bytes w32 (c ∷ d ∷ e ∷ f ∷ []))) else (
    if t == 1 then ipv4_address_text (a ∷ b ∷ c ∷ d ∷ []) ++ (codes ":" ++ decimal (from_be_bytes w16 (e ∷ f ∷ []))) else
    decimal (from_be_bytes w32 (a ∷ b ∷ c ∷ d ∷ [])) ++ (codes ":" ++ decimal (from_be_bytes w16 (e ∷ f ∷ []))))
owned_text t v = []

-- the color of a community of that type (RFC 9012, section 4.3)
abbrev pub color_text : List ℕ → List ℕ
color_text (a ∷ b ∷ c ∷ d ∷ e ∷ f ∷ []) = codes " color " ++ decimal (from_be_bytes w32 (c ∷ d ∷ e ∷ f ∷ []))
color_text v = []

-- a type and a sub-type by their numbers
abbrev pub types_text : ℕ → ℕ → List ℕ
types_text t s = codes " type " ++ (decimal t ++ (codes " subtype " ++ decimal s))

-- a community of a type, a sub-type and six octets: by its owner for types 0 to 2, transitive or not; Color; else by its numbers
abbrev pub extended_text : ℕ → ℕ → List ℕ → List ℕ
extended_text t s v =
    if nat_lt (t % 64) 3 then subtype_text s ++ owned_text (t % 64) v else (
    if t == 3 && s == 11 then color_text v else
    types_text t s)

abbrev pub extended_row : List ℕ → List ℕ
extended_row (t ∷ s ∷ a ∷ b ∷ c ∷ d ∷ e ∷ f ∷ rest) = extended_text t s (a ∷ b ∷ c ∷ d ∷ e ∷ f ∷ []) ++ (further rest ++ extended_row rest)
extended_row b = []

-- ---- IPv6 Address Specific Extended Communities (RFC 5701, section 2)

-- a community of a type, a sub-type, an address and a number: for type 0, transitive or not, its owner, with the address in brackets (RFC 5952,
-- section 6), and its number; else by its numbers
abbrev pub extended6_text : ℕ → ℕ → List ℕ → ℕ → List ℕ
extended6_text t s owner number =
    if t % 64 == 0 then subtype_text s ++ (codes "[" ++ (ip6_text owner ++ (codes "]:" ++ decimal number))) else types_text t s

abbrev pub extended6_row : List ℕ → List ℕ
extended6_row (t ∷ s ∷ a ∷ b ∷ c ∷ d ∷ e ∷ f ∷ g ∷ h ∷ i ∷ j ∷ k ∷ l ∷ m ∷ n ∷ o ∷ p ∷ y ∷ z ∷ rest) =
    extended6_text t s (a ∷ b ∷ c ∷ d ∷ e ∷ f ∷ g ∷ h ∷ i ∷ j ∷ k ∷ l ∷ m ∷ n ∷ o ∷ p ∷ []) (from_be_bytes w16 (y ∷ z ∷ []))
    ++ (further rest ++ extended6_row rest)
extended6_row b = []

-- ---- all

-- the value of an attribute of a type: ORIGINATOR_ID, CLUSTER_LIST, EXTENDED COMMUNITIES, those of IPv6 addresses, AIGP, ONLY_TO_CUSTOMER
abbrev pub attribute_text : ℕ → List ℕ → List ℕ
attribute_text code b =
    if code == 9 then address_text b else (
    if code == 10 then clusters_text b else (
    if code == 16 then extended_row b else (
    if code == 25 then extended6_row b else (
    if code == 26 then metric_text b else (
    if code == 35 then as_text b else [])))))
