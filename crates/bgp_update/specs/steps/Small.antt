-- Attributes within the octets of a message.
use Rattle.std.specs.Prelude.{◌+◌, Bool, nat_le, length}
use Rattle.bgp_attr.specs.Prelude.{PlacedTlv}

-- the attribute ends within 4075 octets
abbrev pub is_small : PlacedTlv → Bool
is_small p = nat_le (p.at + length p.tlv.whole) 4075
