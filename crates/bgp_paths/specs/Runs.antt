-- The path identifiers of a message's routes, by their part of the message (RFC 7911, section 3).
use Rattle.std.specs.Prelude.{◌≡◌, ℕ, nat_le, Bool, List, [], ◌∷◌, map, drop, length, Option, None, Some, if◌then◌else◌}
use Rattle.bgp_numbers.specs.declared.attribute.TheConstants.{MP_REACH_NLRI, MP_UNREACH_NLRI}
use Rattle.bgp_attr.specs.Prelude.{TlvValue}
use Rattle.bgp_update.specs.Prelude.{Parts, parts_of}
use Rattle.bgp_paths.specs.declared.families.PathFamilies.{PathFamilies}
use Rattle.bgp_paths.specs.declared.families.Width.{Width}
use Rattle.bgp_paths.specs.declared.runs.PathRun.{PathRun}
use Rattle.bgp_paths.specs.declared.runs.PathRun.TheVariants.{Empty, Ip4, Ip6}
use Rattle.bgp_paths.specs.declared.runs.PathRuns.{PathRuns}
use Rattle.bgp_paths.specs.Families.{identified, width_of}
use Rattle.bgp_paths.specs.Places.{first_tlv}
use Rattle.bgp_paths.specs.Plain.{head_length}
use Rattle.bgp_paths.specs.Route.{PathPrefixValue, path_prefixes}

-- the routes, each with its path identifier
abbrev pub runs_value : PathRun → List PathPrefixValue
runs_value Empty = []
runs_value (Ip4 octets) = path_prefixes 4 octets.now
runs_value (Ip6 octets) = path_prefixes 16 octets.now

abbrev pub numbers_of : List PathPrefixValue → List ℕ
numbers_of rs = map (λ (r : PathPrefixValue). r.path) rs

abbrev pub numbers_left : PathRun → List ℕ
numbers_left run = numbers_of (runs_value run)

abbrev pub first_or_zero : List ℕ → ℕ
first_or_zero [] = 0
first_or_zero (n ∷ ns) = n

abbrev pub later_of : List ℕ → List ℕ
later_of [] = []
later_of (n ∷ ns) = ns

-- ---- those of a message

abbrev pub field_run : Bool → List ℕ → List PathPrefixValue
field_run paths b = if paths then path_prefixes 4 b else []

abbrev pub family_run : Option Width → List ℕ → List PathPrefixValue
family_run None b = []
family_run (Some width) b = path_prefixes (width_of width) b

-- after its first n octets, where it has n
abbrev pub run_behind : Option Width → Option ℕ → List ℕ → List PathPrefixValue
run_behind family None value = []
run_behind family (Some n) value = if nat_le n (length value) then family_run family (drop n value) else []

abbrev pub attribute_run : PathFamilies → TlvValue → List PathPrefixValue
attribute_run f t = run_behind (identified f t.value) (head_length t) t.value

abbrev pub attribute_run_in : PathFamilies → Option TlvValue → List PathPrefixValue
attribute_run_in f None = []
attribute_run_in f (Some t) = attribute_run f t

-- that of the first attribute of a type
abbrev pub run_of_type : PathFamilies → List ℕ → ℕ → List PathPrefixValue
run_of_type f field kind = attribute_run_in f (first_tlv kind field)

-- each in its part; none where the lengths of the body leave no room for each other
abbrev pub ArePartRuns : PathFamilies → Option Parts → PathRuns → Type 0
ArePartRuns f None runs =
    (runs_value runs.withdrawn ≡ []) × (runs_value runs.unreached ≡ []) × (runs_value runs.reached ≡ []) × (runs_value runs.nlri ≡ [])
ArePartRuns f (Some p) runs =
    (runs_value runs.withdrawn ≡ field_run f.ip4 p.withdrawn) × (runs_value runs.unreached ≡ run_of_type f p.attributes MP_UNREACH_NLRI)
    × (runs_value runs.reached ≡ run_of_type f p.attributes MP_REACH_NLRI) × (runs_value runs.nlri ≡ field_run f.ip4 p.nlri)

abbrev pub AreRuns : PathFamilies → List ℕ → PathRuns → Type 0
AreRuns f body runs = ArePartRuns f (parts_of body) runs
