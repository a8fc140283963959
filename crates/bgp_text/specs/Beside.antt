-- Routes beside their path identifiers (RFC 7911, section 3).
use Rattle.std.specs.Prelude.{ℕ, List, [], ◌∷◌, ◌++◌, map, None, Some}
use Rattle.bgp_prefix.specs.Prelude.{PrefixValue}
use Rattle.bgp_paths.specs.Prelude.{PathNumbers, PathPrefixValue, numbers_of}
use Rattle.bgp_text.specs.declared.beside.Beside.{Beside}

-- each route with the path identifier in its place, where there is one
abbrev pub beside : {A : Type 0} → List A → List ℕ → List (Beside A)
beside [] numbers = []
beside (route ∷ routes) [] = record { route = route; path = None } ∷ beside routes []
beside (route ∷ routes) (number ∷ numbers) = record { route = route; path = Some number } ∷ beside routes numbers

-- those of the routes that an UPDATE withdraws or announces, in the order of its routes: IPv4
abbrev pub numbers_ip4 : PathNumbers → List ℕ
numbers_ip4 ids = (ids.withdrawn ++ ids.unreached4) ++ (ids.reached4 ++ ids.nlri)

-- and IPv6
abbrev pub numbers_ip6 : PathNumbers → List ℕ
numbers_ip6 ids = ids.unreached6 ++ ids.reached6

-- ---- what both have to be, by the routes as received

abbrev pub received : PathPrefixValue → Beside PrefixValue
received r = record { route = r.prefix; path = Some r.path }

abbrev pub prefixes_of : List PathPrefixValue → List PrefixValue
prefixes_of rs = map (λ r. r.prefix) rs

-- the path identifiers of an UPDATE with these routes
abbrev pub numbers_by_part : (withdrawn unreached4 unreached6 reached4 reached6 nlri : List PathPrefixValue) → PathNumbers
numbers_by_part withdrawn unreached4 unreached6 reached4 reached6 nlri = record {
  withdrawn = numbers_of withdrawn;
  unreached4 = numbers_of unreached4;
  unreached6 = numbers_of unreached6;
  reached4 = numbers_of reached4;
  reached6 = numbers_of reached6;
  nlri = numbers_of nlri;
}
