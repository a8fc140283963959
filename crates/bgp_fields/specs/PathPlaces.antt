-- The octets for which an UPDATE whose routes have path identifiers (RFC 7911) is answered by a reset, as they were received: the UPDATE is judged without
-- path identifiers, and an attribute at fault is the one that is at its offset with them.
use Rattle.std.specs.Prelude.{ℕ, ◌+◌, ◌-◌, min, Bool, true, false, nat_le, List, [], ◌∷◌, length, Option, None, Some, option_map, if◌then◌else◌}
use Rattle.std.specs.Option.{option_or}
use Rattle.bgp_wire.specs.Prelude.{◌>>=◌}
use Rattle.bgp_prefix.specs.Prelude.{octets_for}
use Rattle.bgp_open.specs.declared.context.Context.{Context}
use Rattle.bgp_update.specs.Prelude.{Mark, Parts, attributes_at, behind_two, marks_of, parts_of}
use Rattle.bgp_paths.specs.declared.families.PathFamilies.{PathFamilies}
use Rattle.bgp_paths.specs.Prelude.{path_run_of}
use Rattle.bgp_fields.specs.declared.field.Fault.{Fault}
use Rattle.bgp_fields.specs.declared.field.Span.{Span}
use Rattle.bgp_fields.specs.Causes.{update_cause}
use Rattle.bgp_fields.specs.Places.{attribute_place, first_asking, length_place, run_place, span}

-- the route at the front that can't be read: its path identifier, and its prefix, which is too long or goes past the end: those of its octets that exist
abbrev pub route_extent : List ℕ → ℕ
route_extent (a ∷ b ∷ c ∷ d ∷ l ∷ rest) = 5 + min (octets_for l) (length rest)
route_extent b = length b

abbrev pub bad_route : ℕ → List ℕ → Option Span
bad_route at [] = None
bad_route at (x ∷ b) = Some (span at (route_extent (x ∷ b)))

-- the first IPv4 route that can't be read, of a field that begins at this offset
abbrev pub path_run_place : Bool → ℕ → List ℕ → Option Span
path_run_place false at b = run_place at b
path_run_place true at b = bad_route (at + (length b - length (path_run_of 4 b).1)) (path_run_of 4 b).1

-- the attribute at this offset of the field as received, by the offset in its body
abbrev pub attribute_from : Parts → ℕ → Option Span
attribute_from p at = if nat_le at (length p.attributes) then Some (attribute_place p at) else None

-- that of an attribute at this offset of the field without path identifiers
abbrev pub received_place : Parts → Parts → (ℕ → ℕ) → ℕ → Option Span
received_place p plain received at = attribute_from p (received (attributes_at plain + at) - attributes_at p)

-- the first attribute that calls for a reset, or else for a withdrawal
abbrev pub path_asking_place : Bool → Parts → Parts → (ℕ → ℕ) → List Mark → Option Span
path_asking_place resets p plain received marks = first_asking resets marks >>= received_place p plain received

-- in the order of the verdict, as without path identifiers
abbrev pub path_parts_place : PathFamilies → Parts → Parts → (ℕ → ℕ) → List Mark → Option Span
path_parts_place families p plain received marks =
    option_or (path_asking_place true p plain received marks) (
    option_or (path_run_place families.ip4 21 p.withdrawn) (
    option_or (path_run_place families.ip4 (19 + attributes_at p + length p.attributes) p.nlri)
    (path_asking_place false p plain received marks)))

abbrev pub path_update_place : Context → PathFamilies → List ℕ → Option Parts → Option Parts → (ℕ → ℕ) → Option Span
path_update_place ctx families body (Some p) (Some plain) received = path_parts_place families p plain received (marks_of ctx plain)
path_update_place ctx families body p plain received = Some (length_place (behind_two body))

-- these octets, and the test that failed, for a NOTIFICATION of this subcode
abbrev pub path_fault : Context → PathFamilies → List ℕ → List ℕ → (ℕ → ℕ) → ℕ → Option Fault
path_fault ctx families body plain received subcode =
    option_map (λ s. record { span = s; cause = update_cause ctx subcode (parts_of plain) })
    (path_update_place ctx families body (parts_of body) (parts_of plain) received)
