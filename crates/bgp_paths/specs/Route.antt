-- Routes with path identifiers: four octets before each prefix (RFC 7911, section 3).
use Rattle.std.specs.Prelude.{◌≡◌, ℕ, List, [], ◌∷◌, Option, None, Some}
use Rattle.std.specs.Int.{w32, from_be_bytes}
use Rattle.bgp_wire.specs.Prelude.{◌>>=◌, pieces}
use Rattle.bgp_prefix.specs.Prelude.{IsPrefix, PrefixValue, one_prefix}
use Rattle.bgp_paths.specs.declared.route.PathPrefix.{PathPrefix}

-- a path identifier and the prefix after it
pub record PathPrefixValue : Type 0 where
  pub path : ℕ
  pub prefix : PrefixValue

abbrev pub path_prefix_value : {width : ℕ} → PathPrefix width → PathPrefixValue
path_prefix_value r = record { path = r.path; prefix = r.prefix }

-- In the words of the format: four octets with the identifier, highest first, and the octets of the prefix.
pub record IsPathPrefix (width : ℕ) (r : PathPrefixValue) (octets : List ℕ) : Type 0 where
  pub a : ℕ
  pub b : ℕ
  pub c : ℕ
  pub d : ℕ
  pub read : List ℕ
  pub whole : octets ≡ a ∷ b ∷ c ∷ d ∷ read
  pub number : r.path ≡ from_be_bytes w32 (a ∷ b ∷ c ∷ d ∷ [])
  pub spelled : IsPrefix width r.prefix read

-- a prefix after its path identifier
abbrev pub identified_by : ℕ → PrefixValue × List ℕ → PathPrefixValue × List ℕ
identified_by path found = (record { path = path; prefix = found.0 }, found.1)

-- the path identifier and the prefix at the front of octets, and what follows them
unfoldable pub one_path_prefix : ℕ → List ℕ → Option (PathPrefixValue × List ℕ)
one_path_prefix width (a ∷ b ∷ c ∷ d ∷ behind) = do
  found ← one_prefix width behind
  Some (identified_by (from_be_bytes w32 (a ∷ b ∷ c ∷ d ∷ [])) found)
one_path_prefix width _ = None

-- the routes that octets begin with, and the rest, which begins with none
abbrev pub path_run_of : ℕ → List ℕ → List PathPrefixValue × List ℕ
path_run_of width b = pieces (one_path_prefix width) b

abbrev pub path_prefixes : ℕ → List ℕ → List PathPrefixValue
path_prefixes width b = (path_run_of width b).0
