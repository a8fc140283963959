-- The values of capabilities on which no verdict depends, in words: only printed.
use Rattle.std.specs.Prelude.{ℕ, ◌+◌, ◌*◌, ◌%◌, ◌==◌, nat_le, List, [], ◌∷◌, ◌++◌, take, drop, codes, if◌then◌else◌}
use Rattle.std.specs.Int.{w16, from_be_bytes}
use Rattle.bgp_names.specs.Names.{named}
use Rattle.bgp_names.specs.Families.{afi_name, safi_name}
use Rattle.bgp_text.specs.Below.{decimal}
use Rattle.bgp_text.specs.FieldValues.{numbered, said_text}
use Rattle.bgp_text.specs.Shutdown.{where_utf8}

-- ---- families

-- a name, or the number if it has none
abbrev pub name_or_number : List ℕ → ℕ → List ℕ
name_or_number [] n = decimal n
name_or_number (c ∷ name) n = c ∷ name

-- a family by its AFI and its SAFI
abbrev pub family_text : ℕ → ℕ → List ℕ
family_text afi safi = codes " " ++ (name_or_number (afi_name afi) afi ++ (codes " " ++ name_or_number (safi_name safi) safi))

-- a comma, if more follows
abbrev pub further : List ℕ → List ℕ
further [] = []
further (b ∷ rest) = codes ","

-- ---- BGP Role (RFC 9234, section 4.1)

unfoldable pub role_name : ℕ → List ℕ
role_name n = named (
    (0, codes "Provider") ∷ (
    (1, codes "RS") ∷ (
    (2, codes "RS-Client") ∷ (
    (3, codes "Customer") ∷ (
    (4, codes "Peer") ∷ []))))) n

-- a role, if it is one octet
abbrev pub role_text : List ℕ → List ℕ
role_text (n ∷ []) = numbered (role_name n) n
role_text b = []

-- ---- Extended Next Hop Encoding: families, and the AFI of their next hops (RFC 8950, section 4)

abbrev pub hop_text : ℕ → ℕ → ℕ → List ℕ
hop_text afi safi hop = family_text afi safi ++ (codes " by " ++ name_or_number (afi_name hop) hop)

-- (the SAFI has two octets, the first of them 0)
abbrev pub hops_text : List ℕ → List ℕ
hops_text (a ∷ b ∷ c ∷ s ∷ h ∷ i ∷ rest) =
    hop_text (from_be_bytes w16 (a ∷ b ∷ [])) s (from_be_bytes w16 (h ∷ i ∷ [])) ++ (further rest ++ hops_text rest)
hops_text b = []

-- ---- Graceful Restart (RFC 4724, section 3)

-- whether the forwarding state was preserved: the first bit of the flags of a family
abbrev pub kept_text : ℕ → List ℕ
kept_text flags = if nat_le 128 flags then codes " forwarding state kept" else []

abbrev pub restarts_text : List ℕ → List ℕ
restarts_text (a ∷ b ∷ s ∷ f ∷ rest) = codes "," ++ (family_text (from_be_bytes w16 (a ∷ b ∷ [])) s ++ (kept_text f ++ restarts_text rest))
restarts_text b = []

-- the Restart Time, the lower twelve bits of two octets, and families
abbrev pub restart_text : List ℕ → List ℕ
restart_text (a ∷ b ∷ families) = numbered (codes "seconds") (a % 16 * 256 + b) ++ restarts_text families
restart_text b = []

-- ---- Long-Lived Graceful Restart: families, and how long their stale routes are kept (RFC 9494, section 3.1)

abbrev pub stale_text : List ℕ → List ℕ
stale_text (a ∷ b ∷ s ∷ f ∷ t ∷ u ∷ v ∷ rest) =
    family_text (from_be_bytes w16 (a ∷ b ∷ [])) s ++ (numbered (codes "seconds") (t * 65536 + u * 256 + v) ++ (further rest ++ stale_text rest))
stale_text b = []

-- ---- ADD-PATH: families, and whether the speaker receives or sends path identifiers in them (RFC 7911, section 4)

unfoldable pub path_mode : ℕ → List ℕ
path_mode n = named (
    (1, codes "receive") ∷ (
    (2, codes "send") ∷ (
    (3, codes "send and receive") ∷ []))) n

abbrev pub paths_text : List ℕ → List ℕ
paths_text (a ∷ b ∷ s ∷ m ∷ rest) =
    family_text (from_be_bytes w16 (a ∷ b ∷ [])) s ++ (codes " " ++ (name_or_number (path_mode m) m ++ (further rest ++ paths_text rest)))
paths_text b = []

-- ---- FQDN: the hostname, and its domain name, each after its length in one octet (draft-walton-bgp-hostname-capability, section 3)

-- a name, if it is UTF-8
abbrev pub host_text : List ℕ → List ℕ
host_text b = said_text (where_utf8 b)

abbrev pub domain_text : List ℕ → List ℕ
domain_text [] = []
domain_text (n ∷ rest) = host_text (take n rest)

abbrev pub fqdn_text : List ℕ → List ℕ
fqdn_text [] = []
fqdn_text (n ∷ rest) = host_text (take n rest) ++ domain_text (drop n rest)

-- ---- all

-- the value of a capability of a code
abbrev pub capability_text : ℕ → List ℕ → List ℕ
capability_text code b =
    if code == 5 then hops_text b else (
    if code == 9 then role_text b else (
    if code == 64 then restart_text b else (
    if code == 69 then paths_text b else (
    if code == 71 then stale_text b else (
    if code == 73 then fqdn_text b else [])))))
