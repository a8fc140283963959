-- The path identifiers of an UPDATE's routes, by the field that these are in, and those of an attribute by family (RFC 7911, section 3).
use Rattle.std.specs.Prelude.{ℕ, nat_le, List, [], drop, length, Option, None, Some, if◌then◌else◌}
use Rattle.bgp_numbers.specs.declared.attribute.TheConstants.{MP_REACH_NLRI, MP_UNREACH_NLRI}
use Rattle.bgp_attr.specs.Prelude.{TlvValue}
use Rattle.bgp_update.specs.Prelude.{Parts}
use Rattle.bgp_paths.specs.declared.families.PathFamilies.{PathFamilies}
use Rattle.bgp_paths.specs.declared.families.Width.{Width}
use Rattle.bgp_paths.specs.declared.families.Width.TheVariants.{Ip4, Ip6}
use Rattle.bgp_paths.specs.declared.runs.PathRun.{PathRun}
use Rattle.bgp_paths.specs.declared.runs.PathRun.TheVariants as run
use Rattle.bgp_paths.specs.declared.runs.PathRuns.{PathRuns}
use Rattle.bgp_paths.specs.Families.{identified}
use Rattle.bgp_paths.specs.Places.{first_tlv}
use Rattle.bgp_paths.specs.Plain.{head_length}
use Rattle.bgp_paths.specs.Route.{path_prefixes}
use Rattle.bgp_paths.specs.Runs.{field_run, numbers_left, numbers_of}

pub record PathNumbers : Type 0 where
  pub withdrawn : List ℕ
  pub unreached4 : List ℕ
  pub unreached6 : List ℕ
  pub reached4 : List ℕ
  pub reached6 : List ℕ
  pub nlri : List ℕ

abbrev pub no_numbers : PathNumbers
no_numbers = record { withdrawn = []; unreached4 = []; unreached6 = []; reached4 = []; reached6 = []; nlri = [] }

-- those of the first family, where octets have routes of the second
abbrev pub family_numbers : Width → Option Width → List ℕ → List ℕ
family_numbers wanted None b = []
family_numbers Ip4 (Some Ip4) b = numbers_of (path_prefixes 4 b)
family_numbers Ip4 (Some Ip6) b = []
family_numbers Ip6 (Some Ip4) b = []
family_numbers Ip6 (Some Ip6) b = numbers_of (path_prefixes 16 b)

-- after the first n octets of a value, where it has n
abbrev pub numbers_behind : Width → Option Width → Option ℕ → List ℕ → List ℕ
numbers_behind wanted family None value = []
numbers_behind wanted family (Some n) value = if nat_le n (length value) then family_numbers wanted family (drop n value) else []

abbrev pub attribute_numbers : Width → PathFamilies → Option TlvValue → List ℕ
attribute_numbers wanted f None = []
attribute_numbers wanted f (Some t) = numbers_behind wanted (identified f t.value) (head_length t) t.value

-- those of an UPDATE of these parts; none where the lengths of its body leave no room for each other
abbrev pub numbers_in : PathFamilies → Option Parts → PathNumbers
numbers_in f None = no_numbers
numbers_in f (Some p) = record {
  withdrawn = numbers_of (field_run f.ip4 p.withdrawn);
  unreached4 = attribute_numbers Ip4 f (first_tlv MP_UNREACH_NLRI p.attributes);
  unreached6 = attribute_numbers Ip6 f (first_tlv MP_UNREACH_NLRI p.attributes);
  reached4 = attribute_numbers Ip4 f (first_tlv MP_REACH_NLRI p.attributes);
  reached6 = attribute_numbers Ip6 f (first_tlv MP_REACH_NLRI p.attributes);
  nlri = numbers_of (field_run f.ip4 p.nlri);
}

-- ---- as the code keeps them

abbrev pub numbers4 : PathRun → List ℕ
numbers4 run.Empty = []
numbers4 (run.Ip4 octets) = numbers_of (path_prefixes 4 octets.now)
numbers4 (run.Ip6 octets) = []

abbrev pub numbers6 : PathRun → List ℕ
numbers6 run.Empty = []
numbers6 (run.Ip4 octets) = []
numbers6 (run.Ip6 octets) = numbers_of (path_prefixes 16 octets.now)

abbrev pub path_numbers : PathRuns → PathNumbers
path_numbers runs = record {
  withdrawn = numbers_left runs.withdrawn;
  unreached4 = numbers4 runs.unreached;
  unreached6 = numbers6 runs.unreached;
  reached4 = numbers4 runs.reached;
  reached6 = numbers6 runs.reached;
  nlri = numbers_left runs.nlri;
}
