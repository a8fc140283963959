-- A row of next hops' families, read six octets at a time.
use Rattle.bgp_wire.proofs.Std.{◌≡◌, ℕ, ◌-◌, ◌≤◌, Bool, true, false, List, [], ◌∷◌, length, take, drop, get_or, refl, sym, ap, ◌∙◌, arith, take_all, length-drop}
use Rattle.bgp_terms.specs.Prelude.{has_hop6, is_hop6, is_hop_row}

rest_is : (r : List ℕ) → take (length r - 6) (drop 6 r) ≡ drop 6 r
rest_is r = let l = length-drop 6 r in take_all (length r - 6) (drop 6 r) (omega arith)

row_drop : (r : List ℕ) → 6 ≤ length r → is_hop_row (drop 6 r) ≡ is_hop_row r
row_drop (a ∷ b ∷ c ∷ d ∷ e ∷ f ∷ later) long = refl
row_drop _ long = absurd (omega (arith, long))

pub row_more : (r : List ℕ) (v : Bool) → 6 ≤ length r → is_hop_row r ≡ v → is_hop_row (take (length r - 6) (drop 6 r)) ≡ v
row_more r v long is = ap is_hop_row (rest_is r) ∙ row_drop r long ∙ is

hop6_drop : (r : List ℕ) → 6 ≤ length r → is_hop6 (get_or r 0 0 ∷ get_or r 1 0 ∷ get_or r 2 0 ∷ get_or r 3 0 ∷ get_or r 4 0 ∷ get_or r 5 0 ∷ []) ≡ false → has_hop6 (drop 6 r) ≡ has_hop6 r
hop6_drop (a ∷ b ∷ c ∷ d ∷ e ∷ f ∷ later) long other = rw other refl
hop6_drop _ long other = absurd (omega (arith, long))

pub hop6_more : (r : List ℕ) (v : Bool) → 6 ≤ length r → is_hop6 (get_or r 0 0 ∷ get_or r 1 0 ∷ get_or r 2 0 ∷ get_or r 3 0 ∷ get_or r 4 0 ∷ get_or r 5 0 ∷ []) ≡ false → has_hop6 r ≡ v
    → has_hop6 (take (length r - 6) (drop 6 r)) ≡ v
hop6_more r v long other is = ap has_hop6 (rest_is r) ∙ hop6_drop r long other ∙ is

pub hop6_there : (r : List ℕ) (v : Bool) → 6 ≤ length r → is_hop6 (get_or r 0 0 ∷ get_or r 1 0 ∷ get_or r 2 0 ∷ get_or r 3 0 ∷ get_or r 4 0 ∷ get_or r 5 0 ∷ []) ≡ true → has_hop6 r ≡ v → v ≡ true
hop6_there (a ∷ b ∷ c ∷ d ∷ e ∷ f ∷ later) v long one is = sym is ∙ rw one refl
hop6_there _ v long one is = absurd (omega (arith, long))
