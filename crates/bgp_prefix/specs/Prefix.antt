-- Prefixes and their encoding (RFC 4271, section 4.3; RFC 4760, section 5). An address has `width` octets: 4 or 16.
use Rattle.std.specs.Prelude.{◌≡◌, ℕ, ◌+◌, ◌*◌, ◌<◌, ◌≤◌, List, [], ◌∷◌, length, take, drop, Option, None, Some, nat_le, ◌&&◌, if◌then◌else◌}
use Rattle.bgp_wire.specs.Prelude.{AreOctets}
use Rattle.bgp_prefix.specs.Bits.{octets_for, bit_of, HasNoBitPast, leading_bits, address_of}

-- a prefix: its length in bits, and the octets of its address
pub record PrefixValue : Type 0 where
  pub len : ℕ
  pub addr : List ℕ

-- what holds of each prefix: its length is at most that of an address, and no bit past it is set
pub record IsValid (width : ℕ) (p : PrefixValue) : Type 0 where
  pub allowed : p.len ≤ 8 * width
  pub wide : length p.addr ≡ width
  pub octets : AreOctets p.addr
  pub zeros : leading_bits p.len p.addr ≡ p.addr

-- the prefix of a length and the octets after it
abbrev pub prefix_of : ℕ → ℕ → List ℕ → PrefixValue
prefix_of width l b = record { len = l; addr = address_of width l b }

-- A length in bits, and the least number of octets that holds them. Bits of these octets past the length are ignored.
pub record IsPrefix (width : ℕ) (p : PrefixValue) (b : List ℕ) : Type 0 where
  pub read : List ℕ
  pub octets : b ≡ p.len ∷ read
  pub allowed : p.len ≤ 8 * width
  pub least : length read ≡ octets_for p.len
  pub address : p ≡ prefix_of width p.len read

-- the prefix at the front of octets, and what follows it
unfoldable pub one_prefix : ℕ → List ℕ → Option (PrefixValue × List ℕ)
one_prefix width [] = None
one_prefix width (l ∷ b) =
    if nat_le l (8 * width) && nat_le (octets_for l) (length b)
    then Some (prefix_of width l (take (octets_for l) b), drop (octets_for l) b)
    else None

-- the encoding that is written: the bits past the length are 0
unfoldable pub spelling_of : PrefixValue → List ℕ
spelling_of p = p.len ∷ take (octets_for p.len) p.addr

-- In the words of the format: the address has `width` octets, its first bits are those after the length octet, and its other bits
-- are 0.
pub record HasFirstBits (width : ℕ) (p : PrefixValue) (b : List ℕ) : Type 0 where
  pub wide : length p.addr ≡ width
  pub kept : (i : ℕ) → i < p.len → bit_of p.addr i ≡ bit_of b (8 + i)
  pub zeros : HasNoBitPast p.len p.addr
