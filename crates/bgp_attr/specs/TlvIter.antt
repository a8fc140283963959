-- The attributes that an iterator has left.
use Rattle.std.specs.Prelude.{◌≡◌, ℕ, List, drop, Option, Some, IfSome, option_map}
use Rattle.std.specs.Iterator.{YieldsFirstBy}
use Rattle.bgp_attr.specs.declared.tlv.Tlv.{Tlv}
use Rattle.bgp_attr.specs.declared.tlv_iter.TlvIter.{TlvIter}
use Rattle.bgp_attr.specs.Tlv.{TlvValue, PlacedTlv, one_tlv, tlvs_of, placed_from}
use Rattle.bgp_attr.specs.TlvView.{tlv_value, placed_tlv}

-- the attributes not yet returned, with their offsets
abbrev pub tlvs_left : TlvIter → List PlacedTlv
tlvs_left it = placed_from it.at (tlvs_of (drop it.at it.field.now)).0

-- what follows the last of them
abbrev pub rest_left : TlvIter → List ℕ
rest_left it = (tlvs_of (drop it.at it.field.now)).1

-- the attribute at an offset of a field, where one begins there
abbrev pub tlv_at : List ℕ → ℕ → Option TlvValue
tlv_at field at = option_map (λ x. x.0) (one_tlv (drop at field))

-- the field doesn't change, and the attribute returned is at its offset there
abbrev pub StandsIn : TlvIter → Option Tlv → TlvIter → Type 0
StandsIn s given t = (t.field ≡ s.field) × IfSome given (λ tlv. tlv_at s.field.now tlv.at ≡ Some (tlv_value tlv))

-- a call returned the first attribute left, or none where none was, and what follows them all is the same
abbrev pub GivesTlv : TlvIter → Option Tlv → TlvIter → Type 0
GivesTlv s given t = YieldsFirstBy placed_tlv tlvs_left s given t × (rest_left s ≡ rest_left t) × StandsIn s given t
