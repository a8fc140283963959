-- An UPDATE without path identifiers: the body in which each route is without its own (RFC 7911, section 3). What it says is said once, of that
-- body; octets that are no routes with path identifiers stay octets that are no routes.
use Rattle.std.specs.Prelude.{ℕ, ◌+◌, ◌==◌, nat_le, Bool, List, [], ◌∷◌, ◌++◌, length, take, drop, Option, None, Some, if◌then◌else◌}
use Rattle.std.specs.List.{flat_map}
use Rattle.bgp_numbers.specs.declared.attribute.TheConstants.{MP_REACH_NLRI, MP_UNREACH_NLRI}
use Rattle.bgp_prefix.specs.Prelude.{spelling_of}
use Rattle.bgp_attr.specs.Prelude.{TlvValue, next_hop_length, tlv_octets, tlvs_of}
use Rattle.bgp_update.specs.Prelude.{Parts, body_octets, parts_of}
use Rattle.bgp_paths.specs.declared.families.PathFamilies.{PathFamilies}
use Rattle.bgp_paths.specs.declared.families.Width.{Width}
use Rattle.bgp_paths.specs.Families.{identified, width_of}
use Rattle.bgp_paths.specs.Route.{path_run_of}

-- what stands for octets left after the last route: a length in bits that no prefix has
abbrev pub left_over : List ℕ → List ℕ
left_over [] = []
left_over (octet ∷ later) = 255 ∷ []

-- the prefixes of routes, without the path identifiers before them
abbrev pub plain_routes : ℕ → List ℕ → List ℕ
plain_routes width b = flat_map (λ r. spelling_of r.prefix) (path_run_of width b).0 ++ left_over (path_run_of width b).1

-- those of IPv4 outside of attributes
abbrev pub plain_run : Bool → List ℕ → List ℕ
plain_run paths b = if paths then plain_routes 4 b else b

-- ---- attributes

-- the routes of a value, where those of its family have path identifiers, after its first n octets
abbrev pub plain_behind : Option Width → ℕ → List ℕ → List ℕ
plain_behind None n value = value
plain_behind (Some width) n value = if nat_le n (length value) then take n value ++ plain_routes (width_of width) (drop n value) else value

-- the number of octets before the routes of an attribute that has some: those of MP_REACH_NLRI follow the next hop and a reserved octet
abbrev pub head_length : TlvValue → Option ℕ
head_length t =
    if t.kind == MP_REACH_NLRI then Some (5 + next_hop_length t.value) else (
    if t.kind == MP_UNREACH_NLRI then Some 3 else None)

-- the octets of an attribute
abbrev pub plain_at : PathFamilies → TlvValue → Option ℕ → List ℕ
plain_at f t None = t.whole
plain_at f t (Some n) = tlv_octets t.flags t.kind (plain_behind (identified f t.value) n t.value)

abbrev pub plain_tlv : PathFamilies → TlvValue → List ℕ
plain_tlv f t = plain_at f t (head_length t)

-- the attribute without path identifiers, in the words of attributes
abbrev pub value_at : PathFamilies → TlvValue → Option ℕ → List ℕ
value_at f t None = t.value
value_at f t (Some n) = plain_behind (identified f t.value) n t.value

abbrev pub plain_attribute : PathFamilies → TlvValue → TlvValue
plain_attribute f t = record { flags = t.flags; kind = t.kind; whole = plain_tlv f t; value = value_at f t (head_length t) }

-- those of a field, with what follows its last whole attribute
abbrev pub plain_field : PathFamilies → List ℕ → List ℕ
plain_field f field = flat_map (plain_tlv f) (tlvs_of field).0 ++ (tlvs_of field).1

-- ---- the body

abbrev pub parts_in : List ℕ → List ℕ → List ℕ → Parts
parts_in withdrawn attributes nlri = record { withdrawn = withdrawn; attributes = attributes; nlri = nlri }

abbrev pub plain_parts : PathFamilies → Parts → Parts
plain_parts f p = record {
  withdrawn = plain_run f.ip4 p.withdrawn;
  attributes = plain_field f p.attributes;
  nlri = plain_run f.ip4 p.nlri;
}

abbrev pub octets_of_parts : Parts → List ℕ
octets_of_parts p = body_octets p.withdrawn p.attributes p.nlri

-- where the lengths of a body leave no room for each other, it has no routes
abbrev pub plain_of : PathFamilies → List ℕ → Option Parts → List ℕ
plain_of f body None = body
plain_of f body (Some p) = octets_of_parts (plain_parts f p)

abbrev pub plain_body : PathFamilies → List ℕ → List ℕ
plain_body f body = plain_of f body (parts_of body)
