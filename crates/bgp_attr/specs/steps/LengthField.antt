-- The length field of an attribute, as the code splits it off.
use Rattle.std.specs.Prelude.{ℕ, Bool, true, false, List, [], ◌∷◌, Option, None, Some}
use Rattle.std.specs.Int.{w16, from_be_bytes}

-- the length at the front of octets, and what follows it
abbrev pub length_field : Bool → List ℕ → Option (ℕ × List ℕ)
length_field false (n ∷ b) = Some (n, b)
length_field true (high ∷ low ∷ b) = Some (from_be_bytes w16 (high ∷ low ∷ []), b)
length_field _ _ = None
