-- Steps of reading pairs of digits, which only private functions cite.
use Rattle.std.specs.Prelude.{◌≡◌, true, ℕ, ◌+◌, ◌*◌, ◌<◌, List, ◌∷◌, unwrap_or}
use Rattle.hex.specs.Hex.{hex_digit_value, is_hex_digit}
use Rattle.bgp_engine.specs.HexText.{digit_value}

-- the value of a digit of either case: 255 where it is none
abbrev pub value_or_none : ℕ → ℕ
value_or_none c = unwrap_or (hex_digit_value c) 255

-- two digits, and their octet
pub record IsPair (high low octet : ℕ) : Type 0 where
  pub first : is_hex_digit high ≡ true
  pub second : is_hex_digit low ≡ true
  pub value : octet ≡ digit_value high * 16 + digit_value low
  pub small : octet < 256

-- a text begins with a pair of digits, and this follows it
pub record FirstPair (text rest : List ℕ) (octet : ℕ) : Type 0 where
  pub high : ℕ
  pub low : ℕ
  pub splits : text ≡ high ∷ low ∷ rest
  pub is_pair : IsPair high low octet
