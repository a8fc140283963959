-- An UPDATE with path identifiers before its routes (RFC 7911, section 3), of one without them. Each part has its own, in the order of its routes.
use Rattle.std.specs.Prelude.{ℕ, ◌==◌, nat_le, nat_lt, Bool, List, [], ◌∷◌, ◌++◌, length, take, drop, Option, None, Some, if◌then◌else◌}
use Rattle.std.specs.Int.{w32, to_be_bytes}
use Rattle.std.specs.List.{flat_map}
use Rattle.bgp_numbers.specs.declared.attribute.TheConstants.{MP_REACH_NLRI, MP_UNREACH_NLRI}
use Rattle.bgp_prefix.specs.Prelude.{PrefixValue, run_of, spelling_of}
use Rattle.bgp_attr.specs.Prelude.{TlvValue, tlv_octets, tlvs_of}
use Rattle.bgp_update.specs.Prelude.{Parts, parts_of}
use Rattle.bgp_paths.specs.declared.families.PathFamilies.{PathFamilies}
use Rattle.bgp_paths.specs.declared.families.Width.{Width}
use Rattle.bgp_paths.specs.declared.runs.PathRuns.{PathRuns}
use Rattle.bgp_paths.specs.Families.{identified, width_of}
use Rattle.bgp_paths.specs.Plain.{head_length, octets_of_parts}
use Rattle.bgp_paths.specs.Route.{PathPrefixValue}
use Rattle.bgp_paths.specs.Runs.{field_run, first_or_zero, later_of, numbers_left, numbers_of, run_of_type}

-- the path identifiers of an UPDATE's routes, by their part of it
pub record FieldNumbers : Type 0 where
  pub withdrawn : List ℕ
  pub unreached : List ℕ
  pub reached : List ℕ
  pub nlri : List ℕ

-- ---- routes

-- prefixes, each with its path identifier: 0 where there are fewer of these
abbrev pub paired : List ℕ → List PrefixValue → List PathPrefixValue
paired ns [] = []
paired ns (p ∷ ps) = record { path = first_or_zero ns; prefix = p } ∷ paired (later_of ns) ps

abbrev pub route_octets : ℕ → PrefixValue → List ℕ
route_octets path p = to_be_bytes w32 path ++ spelling_of p

abbrev pub with_numbers : List ℕ → List PrefixValue → List ℕ
with_numbers ns [] = []
with_numbers ns (p ∷ ps) = route_octets (first_or_zero ns) p ++ with_numbers (later_of ns) ps

-- what follows the last whole prefix stays
abbrev pub routes_with : ℕ → List ℕ → List ℕ → List ℕ
routes_with width ns b = with_numbers ns (run_of width b).0 ++ (run_of width b).1

abbrev pub run_with : Bool → List ℕ → List ℕ → List ℕ
run_with paths ns b = if paths then routes_with 4 ns b else b

-- ---- attributes

-- MP_REACH_NLRI or MP_UNREACH_NLRI as they are written (RFC 4760, sections 3 and 4): optional, non-transitive, and with a length of two octets where one is too short
abbrev pub mp_flags : ℕ → ℕ
mp_flags n = if nat_lt 255 n then 144 else 128

abbrev pub mp_tlv : ℕ → List ℕ → TlvValue
mp_tlv kind value = record {
  flags = mp_flags (length value);
  kind = kind;
  whole = tlv_octets (mp_flags (length value)) kind value;
  value = value;
}

-- its routes follow its first n octets, where it has n
abbrev pub tlv_behind : Option Width → ℕ → List ℕ → TlvValue → TlvValue
tlv_behind None n ns t = t
tlv_behind (Some width) n ns t = if nat_le n (length t.value) then mp_tlv t.kind (take n t.value ++ routes_with (width_of width) ns (drop n t.value)) else t

abbrev pub numbers_for : FieldNumbers → ℕ → List ℕ
numbers_for ns kind = if kind == MP_REACH_NLRI then ns.reached else ns.unreached

abbrev pub tlv_at_head : PathFamilies → FieldNumbers → TlvValue → Option ℕ → TlvValue
tlv_at_head f ns t None = t
tlv_at_head f ns t (Some n) = tlv_behind (identified f t.value) n (numbers_for ns t.kind) t

-- an attribute, with the path identifiers of its routes
abbrev pub tlv_with : PathFamilies → FieldNumbers → TlvValue → TlvValue
tlv_with f ns t = tlv_at_head f ns t (head_length t)

abbrev pub octets_with : PathFamilies → FieldNumbers → TlvValue → List ℕ
octets_with f ns t = (tlv_with f ns t).whole

-- those of a field, with what follows its last whole attribute
abbrev pub field_with : PathFamilies → FieldNumbers → List ℕ → List ℕ
field_with f ns field = flat_map (octets_with f ns) (tlvs_of field).0 ++ (tlvs_of field).1

-- ---- the body

abbrev pub parts_with : PathFamilies → FieldNumbers → Parts → Parts
parts_with f ns p = record {
  withdrawn = run_with f.ip4 ns.withdrawn p.withdrawn;
  attributes = field_with f ns p.attributes;
  nlri = run_with f.ip4 ns.nlri p.nlri;
}

-- where the lengths of a body leave no room for each other, it has no routes
abbrev pub body_of : PathFamilies → FieldNumbers → List ℕ → Option Parts → List ℕ
body_of f ns body None = body
body_of f ns body (Some p) = octets_of_parts (parts_with f ns p)

abbrev pub body_with : PathFamilies → FieldNumbers → List ℕ → List ℕ
body_with f ns body = body_of f ns body (parts_of body)

-- ---- those of a message

abbrev pub no_field_numbers : FieldNumbers
no_field_numbers = record { withdrawn = []; unreached = []; reached = []; nlri = [] }

abbrev pub fields_in : PathFamilies → Option Parts → FieldNumbers
fields_in f None = no_field_numbers
fields_in f (Some p) = record {
  withdrawn = numbers_of (field_run f.ip4 p.withdrawn);
  unreached = numbers_of (run_of_type f p.attributes MP_UNREACH_NLRI);
  reached = numbers_of (run_of_type f p.attributes MP_REACH_NLRI);
  nlri = numbers_of (field_run f.ip4 p.nlri);
}

-- as the code keeps them
abbrev pub field_numbers : PathRuns → FieldNumbers
field_numbers runs = record {
  withdrawn = numbers_left runs.withdrawn;
  unreached = numbers_left runs.unreached;
  reached = numbers_left runs.reached;
  nlri = numbers_left runs.nlri;
}
