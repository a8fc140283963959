-- A number at the front of octets, as the code splits it off.
use Rattle.bgp_wire.proofs.Std.{◌≡◌, ℕ, zero, suc, ◌+◌, ◌<◌, ◌≤◌, true, false, List, [], ◌∷◌, length, get_or, take, drop, take-append-drop, Option, Some, None, refl, sym, ap, ◌∙◌, arith, w16, w32, from_be_bytes, le-leb, lt-leb}
use Rattle.std.proofs.lemmas.List.{length-append, length-take}
use Rattle.bgp_attr.specs.Prelude.{one_number, one_triple}
use Rattle.bgp_attr.proofs.Readers.{IsTriple-reads}

four_cells : (b : List ℕ) → 4 ≤ length b → take 4 b ≡ get_or (take 4 b) 0 0 ∷ get_or (take 4 b) 1 0 ∷ get_or (take 4 b) 2 0 ∷ get_or (take 4 b) 3 0 ∷ []
four_cells (a ∷ b ∷ c ∷ d ∷ rest) le = refl
four_cells [] le = absurd (omega arith)
four_cells (a ∷ []) le = absurd (omega arith)
four_cells (a ∷ b ∷ []) le = absurd (omega arith)
four_cells (a ∷ b ∷ c ∷ []) le = absurd (omega arith)

two_cells : (b : List ℕ) → 2 ≤ length b → take 2 b ≡ get_or (take 2 b) 0 0 ∷ get_or (take 2 b) 1 0 ∷ []
two_cells (a ∷ b ∷ rest) le = refl
two_cells [] le = absurd (omega arith)
two_cells (a ∷ []) le = absurd (omega arith)

pub four_taken : (b : List ℕ) → 4 ≤ length b
    → one_number true b ≡ Some (from_be_bytes w32 (get_or (take 4 b) 0 0 ∷ get_or (take 4 b) 1 0 ∷ get_or (take 4 b) 2 0 ∷ get_or (take 4 b) 3 0 ∷ []), drop 4 b)
unfolding one_number
four_taken b le = rw (le-leb 4 (length b) le) (ap (λ (cells : List ℕ). Some (from_be_bytes w32 cells, drop 4 b)) (four_cells b le))

pub four_short : (b : List ℕ) → length b < 4 → one_number true b ≡ None
unfolding one_number
four_short b lt = rw (lt-leb 4 (length b) lt) refl

pub two_taken : (b : List ℕ) → 2 ≤ length b → one_number false b ≡ Some (from_be_bytes w16 (get_or (take 2 b) 0 0 ∷ get_or (take 2 b) 1 0 ∷ []), drop 2 b)
unfolding one_number
two_taken b le = rw (le-leb 2 (length b) le) (ap (λ (cells : List ℕ). Some (from_be_bytes w16 cells, drop 2 b)) (two_cells b le))

pub two_short : (b : List ℕ) → length b < 2 → one_number false b ≡ None
unfolding one_number
two_short b lt = rw (lt-leb 2 (length b) lt) refl

-- ---- three numbers at once

-- four cells in a row
cells_at : (k : ℕ) (b : List ℕ) → k + 4 ≤ length b → take 4 (drop k b) ≡ get_or b k 0 ∷ get_or b (suc k) 0 ∷ get_or b (suc (suc k)) 0 ∷ get_or b (suc (suc (suc k))) 0 ∷ []
cells_at zero (a ∷ b ∷ c ∷ d ∷ rest) le = refl
cells_at (suc k) (a ∷ b) le = cells_at k b (omega arith)
cells_at (suc k) [] le = absurd (omega arith)
cells_at zero [] le = absurd (omega arith)
cells_at zero (a ∷ []) le = absurd (omega arith)
cells_at zero (a ∷ b ∷ []) le = absurd (omega arith)
cells_at zero (a ∷ b ∷ c ∷ []) le = absurd (omega arith)

pub twelve_taken : (b : List ℕ) → 12 ≤ length b
    → one_triple b ≡ Some (from_be_bytes w32 (get_or (take 12 b) 0 0 ∷ get_or (take 12 b) 1 0 ∷ get_or (take 12 b) 2 0 ∷ get_or (take 12 b) 3 0 ∷ []) ∷ from_be_bytes w32 (get_or (take 12 b) 4 0 ∷ get_or (take 12 b) 5 0 ∷ get_or (take 12 b) 6 0 ∷ get_or (take 12 b) 7 0 ∷ []) ∷ from_be_bytes w32 (get_or (take 12 b) 8 0 ∷ get_or (take 12 b) 9 0 ∷ get_or (take 12 b) 10 0 ∷ get_or (take 12 b) 11 0 ∷ []) ∷ [], drop 12 b)
twelve_taken b le =
    let c : List ℕ = take 12 b in
    let twelve : length c ≡ 12 = omega (arith, length-take 12 b) in
    let x = cells_at 0 c (omega arith) in
    let y = cells_at 4 c (omega arith) in
    let z = cells_at 8 c (omega arith) in
    ap one_triple (sym (take-append-drop 12 b))
    ∙ IsTriple-reads.finds _ c (drop 12 b) (record { twelve = twelve; numbers = λ i. from_be_bytes w32 (sym x i) ∷ from_be_bytes w32 (sym y i) ∷ from_be_bytes w32 (sym z i) ∷ [] })

no_triple : (b : List ℕ) → length b < 12 → (o : Option (List ℕ × List ℕ)) → one_triple b ≡ o → o ≡ None
no_triple b lt None e = refl
no_triple b lt (Some (t, back)) e = let found = IsTriple-reads.gives b t back e in absurd (omega (arith, lt, ap length found.1, length-append found.0 back, found.2.twelve))

pub twelve_short : (b : List ℕ) → length b < 12 → one_triple b ≡ None
twelve_short b lt = no_triple b lt (one_triple b) refl
