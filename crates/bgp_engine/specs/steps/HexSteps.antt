-- A reader of hexadecimal text, character by character.
use Rattle.std.specs.Prelude.{◌≡◌, ℕ, ◌+◌, ◌-◌, ◌*◌, List, [], ◌∷◌, ◌++◌, length, Some, option_to_list}
use Rattle.bgp_engine.specs.Below.{AreOctets}
use Rattle.bgp_engine.specs.declared.hex_text.HexText.{HexText}
use Rattle.bgp_engine.specs.declared.hex_text.Taken.{Taken}
use Rattle.bgp_engine.specs.HexText.{spelled, bad_from}

-- the pending first digit of a pair
abbrev pub pending : HexText → List ℕ
pending reader = option_to_list reader.pending

-- the offset of the text that isn't read yet, that digit included
abbrev pub place : HexText → ℕ
place reader = reader.seen - length (pending reader)

-- whatever text follows, from old on it has these octets and then those from new on, and is bad where it is from new on
pub record Continues (old : HexText) (text octets : List ℕ) (new : HexText) : Type 0 where
  pub spells : (later : List ℕ) → spelled (pending old ++ (text ++ later)) ≡ octets ++ spelled (pending new ++ later)
  pub is_bad : (later : List ℕ) → bad_from (place old) (pending old ++ (text ++ later)) ≡ bad_from (place new) (pending new ++ later)
  pub counts : new.seen ≡ old.seen + length text

-- whatever text follows, it has these octets and no others, and its first bad character is at this offset
pub record Breaks (old : HexText) (text octets : List ℕ) (n : ℕ) : Type 0 where
  pub spells : (later : List ℕ) → spelled (pending old ++ (text ++ later)) ≡ octets
  pub is_bad : (later : List ℕ) → bad_from (place old) (pending old ++ (text ++ later)) ≡ Some n

abbrev pub ReadsOn : HexText → ℕ → Taken → HexText → Type 0
ReadsOn old c Taken.Nothing new = Continues old (c ∷ []) [] new
ReadsOn old c (Taken.Octet octet) new = Continues old (c ∷ []) (octet ∷ []) new × (length (pending old) ≡ 1) × (length (pending new) ≡ 0)
ReadsOn old c Taken.Bad new = Breaks old (c ∷ []) [] new.seen

-- pairs of digits were read from the beginning of a text: this remains of it, and their octets follow the earlier ones
pub record ReadsPairs (old : HexText) (text rest was octets : List ℕ) (new : HexText) : Type 0 where
  pub front : List ℕ
  pub added : List ℕ
  pub splits : text ≡ front ++ rest
  pub puts : octets ≡ was ++ added
  pub continues : Continues old front added new
  pub waits : new.pending ≡ old.pending
  pub even : length front ≡ 2 * length added
  pub are_octets : AreOctets added
