-- Offsets in a body without path identifiers, and in the body with them: an offset grows by the path identifiers before it, which are in Withdrawn
-- Routes, in the first MP_UNREACH_NLRI and in the first MP_REACH_NLRI. Where a message has notes, there is no second one of either.
use Rattle.std.specs.Prelude.{◌==◌, ◌||◌, ℕ, ◌+◌, ◌-◌, nat_lt, Bool, List, ◌∷◌, length, Option, None, Some, option_map, if◌then◌else◌}
use Rattle.std.specs.List.{find}
use Rattle.std.specs.Option.{unwrap_or}
use Rattle.bgp_numbers.specs.declared.attribute.TheConstants.{MP_REACH_NLRI, MP_UNREACH_NLRI}
use Rattle.bgp_attr.specs.Prelude.{PlacedTlv, TlvValue, placed_from, tlvs_of}
use Rattle.bgp_update.specs.Prelude.{Parts}
use Rattle.bgp_paths.specs.declared.places.PathShifts.{PathShifts}
use Rattle.bgp_paths.specs.declared.places.Shift.{Shift}

abbrev pub first_of_type : ℕ → List ℕ → Option PlacedTlv
first_of_type kind field = find (λ q. q.tlv.kind == kind) (placed_from 0 (tlvs_of field).0)

abbrev pub first_tlv : ℕ → List ℕ → Option TlvValue
first_tlv kind field = option_map (λ q. q.tlv) (first_of_type kind field)

-- the number of octets by which an offset grows for one attribute before it
abbrev pub shift_between : Option PlacedTlv → Option PlacedTlv → ℕ → ℕ
shift_between (Some plain) (Some whole) at = if nat_lt plain.at at then length whole.tlv.whole - length plain.tlv.whole else 0
shift_between plain whole at = 0

abbrev pub shift_by : List ℕ → List ℕ → ℕ → ℕ → ℕ
shift_by plain field kind at = shift_between (first_of_type kind plain) (first_of_type kind field) at

-- the offset in a body of these parts of the attribute at an offset of the body without path identifiers, of these
abbrev pub place_in_parts : Parts → Parts → ℕ → ℕ
place_in_parts plain p at =
    at + ((length p.withdrawn - length plain.withdrawn)
    + (shift_by plain.attributes p.attributes MP_UNREACH_NLRI (at - (4 + length plain.withdrawn)) + shift_by plain.attributes p.attributes MP_REACH_NLRI (at - (4 + length plain.withdrawn))))

abbrev pub place_between : Option Parts → Option Parts → ℕ → ℕ
place_between (Some plain) (Some p) at = place_in_parts plain p at
place_between plain p at = at

-- ---- as the code keeps it

abbrev pub shift_value : Shift → ℕ → ℕ
shift_value s at = if nat_lt s.at at then s.by else 0

abbrev pub shifted : PathShifts → ℕ → ℕ
shifted s at = at + (s.withdrawn + (shift_value s.unreached (at - s.start) + shift_value s.reached (at - s.start)))

-- ---- the data of a NOTIFICATION

-- the type of the attribute that octets begin with
abbrev pub type_at : List ℕ → ℕ
type_at (flags ∷ kind ∷ later) = kind
type_at _ = 0

abbrev pub carries : ℕ → Bool
carries kind = (kind == MP_REACH_NLRI) || (kind == MP_UNREACH_NLRI)

-- the first attribute of a type, as it was received
abbrev pub received_in : ℕ → Option Parts → Option (List ℕ)
received_in kind None = None
received_in kind (Some p) = option_map (λ q. q.tlv.whole) (first_of_type kind p.attributes)

-- the octets at fault as they were received: where they are an attribute with routes, the first of its type
abbrev pub data_in : Option Parts → List ℕ → List ℕ
data_in p octets = if carries (type_at octets) then unwrap_or (received_in (type_at octets) p) octets else octets
