-- An attribute in octets (RFC 4271, section 4.3): flags, type, length, value. The length has two octets where the
-- Extended Length bit is set, else one.
use Rattle.std.specs.Prelude.{◌≡◌, ℕ, ◌+◌, List, [], ◌∷◌, ◌++◌, length, Option, None, Some, if◌then◌else◌}
use Rattle.std.specs.Int.{w16, to_be_bytes, from_be_bytes}
use Rattle.bgp_wire.specs.Prelude.{◌>>=◌, pieces, first_octets}
use Rattle.bgp_attr.specs.Flags.{is_extended}

-- an attribute before it is judged: its flags, its type, all its octets, and those of its value
pub record TlvValue : Type 0 where
  pub flags : ℕ
  pub kind : ℕ
  pub whole : List ℕ
  pub value : List ℕ

-- the number of octets of the length field
abbrev pub length_width : ℕ → ℕ
length_width flags = if is_extended flags then 2 else 1

-- the number in the length field
abbrev pub number_of_length : List ℕ → ℕ
number_of_length (n ∷ []) = n
number_of_length b = from_be_bytes w16 b

-- b is exactly the attribute
pub record IsTlv (t : TlvValue) (b : List ℕ) : Type 0 where
  pub size : List ℕ
  pub octets : b ≡ t.flags ∷ t.kind ∷ (size ++ t.value)
  pub wide : length size ≡ length_width t.flags
  pub counted : length t.value ≡ number_of_length size
  pub whole : t.whole ≡ b

-- the length field that is written, of the width given by the flags
abbrev pub length_octets : ℕ → ℕ → List ℕ
length_octets flags n = if is_extended flags then to_be_bytes w16 n else n ∷ []

-- the octets of an attribute with these flags, of this type and value
abbrev pub tlv_octets : ℕ → ℕ → List ℕ → List ℕ
tlv_octets flags kind value = flags ∷ kind ∷ (length_octets flags (length value) ++ value)

-- the attribute at the front of octets, and what follows it
unfoldable pub one_tlv : List ℕ → Option (TlvValue × List ℕ)
one_tlv (flags ∷ kind ∷ b) = do
  size ← first_octets (length_width flags) b
  value ← first_octets (number_of_length size.0) size.1
  Some (record { flags = flags; kind = kind; whole = flags ∷ kind ∷ (size.0 ++ value.0); value = value.0 }, value.1)
one_tlv _ = None

-- the attributes that octets begin with, and the rest, which begins with none
abbrev pub tlvs_of : List ℕ → List TlvValue × List ℕ
tlvs_of b = pieces one_tlv b

-- an attribute and the offset of its flags
pub record PlacedTlv : Type 0 where
  pub at : ℕ
  pub tlv : TlvValue

-- attributes one after another, the first one at this offset
abbrev pub placed_from : ℕ → List TlvValue → List PlacedTlv
placed_from at [] = []
placed_from at (t ∷ ts) = record { at = at; tlv = t } ∷ placed_from (at + length t.whole) ts
