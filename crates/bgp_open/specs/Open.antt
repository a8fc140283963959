-- The body of an OPEN (RFC 4271, section 4.2): Version in one octet, My Autonomous System in two, Hold Time in two,
-- BGP Identifier in four, the length of the parameters in one, the parameters. It has at least ten octets.
use Rattle.std.specs.Prelude.{◌≡◌, ◌≢◌, ◌≤◌, ◌==◌, ◌||◌, ◌&&◌, ℕ, Bool, false, nat_lt, List, [], ◌∷◌, length, drop, slice_index}
use Rattle.std.specs.List.{flat_map}
use Rattle.std.specs.Int.{w16, from_be_bytes}
use Rattle.bgp_wire.specs.Prelude.{Row}
use Rattle.bgp_numbers.specs.declared.TheConstants.{VERSION}
use Rattle.bgp_open.specs.declared.capability.Capability.{Capability}
use Rattle.bgp_open.specs.declared.message.Open.{Open}
use Rattle.bgp_open.specs.Parameter.{IsParameter}

abbrev pub version_of : List ℕ → ℕ
version_of body = slice_index body 0

abbrev pub as_field_of : List ℕ → ℕ
as_field_of body = from_be_bytes w16 (slice_index body 1 ∷ slice_index body 2 ∷ [])

abbrev pub hold_of : List ℕ → ℕ
hold_of body = from_be_bytes w16 (slice_index body 3 ∷ slice_index body 4 ∷ [])

abbrev pub id_of : List ℕ → List ℕ
id_of body = slice_index body 5 ∷ slice_index body 6 ∷ slice_index body 7 ∷ slice_index body 8 ∷ []

abbrev pub length_of : List ℕ → ℕ
length_of body = slice_index body 9

abbrev pub parameters_of : List ℕ → List ℕ
parameters_of body = drop 10 body

-- a Hold Time is zero or at least three seconds (RFC 4271, section 4.2)
pub record IsHold (hold : ℕ) : Type 0 where
  pub not_one : hold ≢ 1
  pub not_two : hold ≢ 2

-- not a valid identifier of a speaker (RFC 6286, section 2.1)
abbrev pub zero_id : List ℕ
zero_id = 0 ∷ 0 ∷ 0 ∷ 0 ∷ []

abbrev pub is_short_hold : ℕ → Bool
is_short_hold hold = (hold == 1) || (hold == 2)

abbrev pub is_zero_id : List ℕ → Bool
is_zero_id (a ∷ b ∷ c ∷ d ∷ []) = (a == 0) && ((b == 0) && ((c == 0) && (d == 0)))
is_zero_id _ = false

-- the number needs more than the two octets of My Autonomous System (RFC 6793, section 4.1)
abbrev pub is_wide : ℕ → Bool
is_wide number = nat_lt 65535 number

-- the capabilities of parameters, however they are grouped
abbrev pub joined : List (List Capability) → List Capability
joined parameters = flat_map (λ cs. cs) parameters

-- the body is exactly the OPEN o
pub record IsOpen (o : Open) (body : List ℕ) : Type 0 where
  pub fixed : 10 ≤ length body
  pub version : version_of body ≡ VERSION
  pub as_field : o.as_field ≡ as_field_of body
  pub hold : o.hold ≡ hold_of body
  pub hold_allowed : IsHold o.hold
  pub id : o.id ≡ id_of body
  pub id_allowed : o.id ≢ zero_id
  pub counted : length_of body ≡ length (parameters_of body)
  pub parameters : List (List Capability)
  pub row : Row IsParameter parameters (parameters_of body)
  pub caps : o.caps ≡ joined parameters
