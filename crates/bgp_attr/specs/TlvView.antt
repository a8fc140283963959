-- The value of a borrowed attribute, the attributes that an iterator has left, and what follows them.
use Rattle.std.specs.Prelude.{◌≡◌, ◌<◌, ℕ, List, [], length}
use Rattle.bgp_attr.specs.declared.tlv.Tlv.{Tlv}
use Rattle.bgp_attr.specs.declared.tlv.Tail.{Tail}
use Rattle.bgp_attr.specs.declared.tlv.Tail.TheVariants.{End, Cut}
use Rattle.bgp_attr.specs.Tlv.{TlvValue, PlacedTlv}

-- the attribute, without its offset
abbrev pub tlv_value : Tlv → TlvValue
tlv_value t = record { flags = t.flags.0; kind = t.kind; whole = t.whole.now; value = t.value.now }

-- the attribute and its offset
abbrev pub placed_tlv : Tlv → PlacedTlv
placed_tlv t = record { at = t.at; tlv = tlv_value t }

-- the tail is the rest after the last attribute
abbrev pub IsTail : List ℕ → Tail → Type 0
IsTail rest End = rest ≡ []
IsTail rest (Cut octets) = (octets.now ≡ rest) × (0 < length rest)
