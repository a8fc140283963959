-- Rows of numbers, and of large communities: their lengths, their ranges, and that what is written of them is read back.
use Rattle.bgp_wire.proofs.Std.{◌≡◌, ℕ, ◌+◌, ◌*◌, ◌%◌, ◌^◌, ◌<◌, Bool, true, false, List, [], ◌∷◌, ◌++◌, length, take, drop, refl, sym, ap, subst, ◌∙◌, inl, inr, lit<, arith, flat_map, AllByRecursion, w16, w32, to_be_bytes, from_be_bytes, cases_lt, from_be_bytes-to_be_bytes_2, from_be_bytes-to_be_bytes_4, mod-mul-add, take-append-drop, nil_from_length}
use Rattle.std.proofs.Math.Nat.{mul_comm}
use Rattle.std.proofs.lemmas.List.{append-nil, length-append, length-take}
use Rattle.bgp_wire.specs.Prelude.{AreOctets, Row, Splits, pieces}
use Rattle.bgp_wire.proofs.OctetLemmas.{AreOctets-front, AreOctets-back, AreOctets-take, AreOctets-drop}
use Rattle.bgp_wire.proofs.Pieces.{Splits-pieces}
use Rattle.bgp_wire.proofs.Behinds.{pieces-whole}
use Rattle.bgp_prefix.specs.declared.as_number.AsNumber.{AsNumber}
use Rattle.bgp_attr.specs.Prelude.{number_width, number_in, IsNumber, one_number, numbers_of, number_octets, row_octets, IsTriple, one_triple, triples_of, triple_octets, IsFourOctets, IsThreeNumbers}
use Rattle.bgp_attr.proofs.Readers.{IsNumber-reads, IsTriple-reads}

-- ---- one number

abbrev pub number_of : AsNumber → ℕ
number_of n = n.0

-- the number fits in its octets
abbrev pub Fits : Bool → ℕ → Type 0
Fits true n = n < 2 ^ 32
Fits false n = n < 2 ^ 16

pub length-number_octets : (wide : Bool) (n : ℕ) → length (number_octets wide n) ≡ number_width wide
length-number_octets true n = refl
length-number_octets false n = refl

pub number_in-octets : (wide : Bool) (n : ℕ) → Fits wide n → number_in wide (number_octets wide n) ≡ n
number_in-octets true n small = from_be_bytes-to_be_bytes_4 n small
number_in-octets false n small = from_be_bytes-to_be_bytes_2 n small

pub IsNumber-octets : (wide : Bool) (n : ℕ) → Fits wide n → IsNumber wide n (number_octets wide n)
IsNumber-octets wide n small = record { as_wide = length-number_octets wide n; value = sym (number_in-octets wide n small) }

four_small : (b : List ℕ) → AreOctets b → from_be_bytes w32 b < 2 ^ 32
four_small b octets = omega (arith, octets 0, octets 1, octets 2, octets 3)

two_small : (b : List ℕ) → AreOctets b → from_be_bytes w16 b < 2 ^ 16
two_small b octets = omega (arith, octets 0, octets 1)

pub number_in-small : (wide : Bool) (b : List ℕ) → AreOctets b → Fits wide (number_in wide b)
number_in-small true b octets = four_small b octets
number_in-small false b octets = two_small b octets

-- a number that fits in two octets fits in four
pub Fits-four : (wide : Bool) (n : ℕ) → Fits wide n → IsFourOctets n
Fits-four true n small = small
Fits-four false n small = omega arith

-- ---- rows of them

pub Row-numbers : (wide : Bool) (ns : List ℕ) → AllByRecursion (Fits wide) ns → Row (IsNumber wide) ns (row_octets wide ns)
Row-numbers wide [] small = refl
Row-numbers wide (n ∷ ns) small = (number_octets wide n, row_octets wide ns, refl, IsNumber-octets wide n small.0, Row-numbers wide ns small.1)

pub numbers_of-row_octets : (wide : Bool) (ns : List ℕ) → AllByRecursion (Fits wide) ns → numbers_of wide (row_octets wide ns) ≡ ns
numbers_of-row_octets wide ns small =
    ap (λ (q : List ℕ × List ℕ). q.0) (pieces-whole ℕ (IsNumber wide) (one_number wide) (IsNumber-reads wide) ns (row_octets wide ns) (Row-numbers wide ns small))

-- a row of k octets each
module _ {A : Type 0} (R : A → List ℕ → Type 0) (k : ℕ) (each : (v : A) (b : List ℕ) → R v b → length b ≡ k) where
  pub length-Row : (vs : List A) (b : List ℕ) → Row R vs b → length b ≡ k * length vs
  length-Row [] b row = ap length row ∙ omega arith
  length-Row (v ∷ vs) b row =
      omega (arith, ap length row.2, length-append row.0 row.1, each v row.0 row.3, length-Row vs row.1 row.4)

pub length-number_row : (wide : Bool) (ns : List ℕ) (b : List ℕ) → Row (IsNumber wide) ns b → length b ≡ number_width wide * length ns
length-number_row wide ns b row = length-Row (IsNumber wide) (number_width wide) (λ v x p. p.as_wide) ns b row

pub length-row_octets : (wide : Bool) (ns : List ℕ) → length (row_octets wide ns) ≡ number_width wide * length ns
length-row_octets wide [] = omega arith
length-row_octets wide (n ∷ ns) =
    omega (arith, length-append (number_octets wide n) (row_octets wide ns), length-number_octets wide n, length-row_octets wide ns)

pub number_row-small : (wide : Bool) (ns : List ℕ) (b : List ℕ) → AreOctets b → Row (IsNumber wide) ns b → AllByRecursion (Fits wide) ns
number_row-small wide [] b octets row = tt
number_row-small wide (n ∷ ns) b octets row =
    let joined : AreOctets (row.0 ++ row.1) = subst AreOctets row.2 octets in
    let first : AreOctets row.0 = AreOctets-front row.0 row.1 joined in
    let value : n ≡ number_in wide row.0 = (row.3).value in
    (subst (Fits wide) (sym value) (number_in-small wide row.0 first), number_row-small wide ns row.1 (AreOctets-back row.0 row.1 joined) row.4)

-- ---- octets of a length divisible by k are such a row

module _ (A : Type 0) (R : A → List ℕ → Type 0) (k : ℕ) (some : 0 < k) (each : (v : A) (b : List ℕ) → R v b → length b ≡ k)
    (value : List ℕ → A) (means : (b : List ℕ) → length b ≡ k → R (value b) b) where
  rest_short : (b : List ℕ) (vs : List A) (rest : List ℕ) → Splits R b vs rest → length rest < k
  rest_short b vs rest s = elim (cases_lt (length rest) k) [
    | inl lt ↦ lt
    | inr le ↦ absurd (s.stuck (value (take k rest)) (take k rest) (drop k rest) (means (take k rest) (omega (arith, length-take k rest))) (sym (take-append-drop k rest)))
  ]

  no_rest : (n m r : ℕ) → n ≡ k * m + r → r < k → n % k ≡ 0 → r ≡ 0
  no_rest n m r e lt whole =
      let turned : m * k + r ≡ n = ap (λ (x : ℕ). x + r) (mul_comm m k) ∙ sym e in
      sym (mod-mul-add m k r lt) ∙ ap (λ (x : ℕ). x % k) turned ∙ whole

  pub Splits-whole : (b : List ℕ) (vs : List A) (rest : List ℕ) → length b % k ≡ 0 → Splits R b vs rest → Row R vs b
  Splits-whole b vs rest whole s =
      let parts : length b ≡ k * length vs + length rest = ap length s.whole ∙ length-append s.row rest ∙ ap (λ (x : ℕ). x + length rest) (length-Row R k each vs s.row s.spelled) in
      let none : rest ≡ [] = nil_from_length rest (no_rest (length b) (length vs) (length rest) parts (rest_short b vs rest s) whole) in
      let same : b ≡ s.row = s.whole ∙ ap (λ (x : List ℕ). s.row ++ x) none ∙ append-nil s.row in
      subst (λ (x : List ℕ). Row R vs x) (sym same) s.spelled

width_some : (wide : Bool) → 0 < number_width wide
width_some true = lit< tt
width_some false = lit< tt

pub number_row-whole : (wide : Bool) (b : List ℕ) → length b % number_width wide ≡ 0 → Row (IsNumber wide) (numbers_of wide b) b
number_row-whole wide b whole =
    Splits-whole ℕ (IsNumber wide) (number_width wide) (width_some wide) (λ v x p. p.as_wide) (λ x. number_in wide x) (λ x len. record { as_wide = len; value = refl })
    b (pieces (one_number wide) b).0 (pieces (one_number wide) b).1 whole (Splits-pieces ℕ (IsNumber wide) (one_number wide) (IsNumber-reads wide) b)

-- ---- large communities

abbrev triple_in : List ℕ → List ℕ
triple_in b = from_be_bytes w32 (take 4 b) ∷ from_be_bytes w32 (take 4 (drop 4 b)) ∷ from_be_bytes w32 (take 4 (drop 8 b)) ∷ []

pub triple_row-whole : (b : List ℕ) → length b % 12 ≡ 0 → Row IsTriple (triples_of b) b
triple_row-whole b whole =
    Splits-whole (List ℕ) IsTriple 12 (lit< tt) (λ v x p. p.twelve) triple_in (λ x len. record { twelve = len; numbers = refl })
    b (pieces one_triple b).0 (pieces one_triple b).1 whole (Splits-pieces (List ℕ) IsTriple one_triple IsTriple-reads b)

pub length-triple_row : (ts : List (List ℕ)) (b : List ℕ) → Row IsTriple ts b → length b ≡ 12 * length ts
length-triple_row ts b row = length-Row IsTriple 12 (λ v x p. p.twelve) ts b row

pub IsTriple-octets : (t : List ℕ) → IsThreeNumbers t → IsTriple t (triple_octets t)
IsTriple-octets (x ∷ y ∷ z ∷ []) p =
    let first : from_be_bytes w32 (to_be_bytes w32 x) ≡ x = from_be_bytes-to_be_bytes_4 x (p.small).0 in
    let second : from_be_bytes w32 (to_be_bytes w32 y) ≡ y = from_be_bytes-to_be_bytes_4 y (p.small).1.0 in
    let third : from_be_bytes w32 (to_be_bytes w32 z) ≡ z = from_be_bytes-to_be_bytes_4 z (p.small).1.1.0 in
    record { twelve = refl; numbers = same_three x y z _ _ _ (sym first) (sym second) (sym third) }
  where
    same_three : (a b c x y z : ℕ) → a ≡ x → b ≡ y → c ≡ z → a ∷ b ∷ c ∷ [] ≡ x ∷ y ∷ z ∷ []
    same_three a b c x y z e f g = rw (e, f, g) refl
IsTriple-octets [] p = absurd (omega (arith, p.three))
IsTriple-octets (x ∷ []) p = absurd (omega (arith, p.three))
IsTriple-octets (x ∷ y ∷ []) p = absurd (omega (arith, p.three))
IsTriple-octets (x ∷ y ∷ z ∷ w ∷ t) p = absurd (omega (arith, p.three))

pub Row-triples : (ts : List (List ℕ)) → AllByRecursion IsThreeNumbers ts → Row IsTriple ts (flat_map triple_octets ts)
Row-triples [] all = refl
Row-triples (t ∷ ts) all = (triple_octets t, flat_map triple_octets ts, refl, IsTriple-octets t all.0, Row-triples ts all.1)

pub triples_of-octets : (ts : List (List ℕ)) → AllByRecursion IsThreeNumbers ts → triples_of (flat_map triple_octets ts) ≡ ts
triples_of-octets ts all =
    ap (λ (q : List (List ℕ) × List ℕ). q.0) (pieces-whole (List ℕ) IsTriple one_triple IsTriple-reads ts (flat_map triple_octets ts) (Row-triples ts all))

triple_in-small : (b : List ℕ) → AreOctets b → IsThreeNumbers (triple_in b)
triple_in-small b octets = record {
  three = refl;
  small = (
    four_small (take 4 b) (AreOctets-take 4 b octets),
    (
      four_small (take 4 (drop 4 b)) (AreOctets-take 4 (drop 4 b) (AreOctets-drop 4 b octets)),
      (four_small (take 4 (drop 8 b)) (AreOctets-take 4 (drop 8 b) (AreOctets-drop 8 b octets)), tt),
    ),
  );
}

pub triple_row-small : (ts : List (List ℕ)) (b : List ℕ) → AreOctets b → Row IsTriple ts b → AllByRecursion IsThreeNumbers ts
triple_row-small [] b octets row = tt
triple_row-small (t ∷ ts) b octets row =
    let joined : AreOctets (row.0 ++ row.1) = subst AreOctets row.2 octets in
    let value : t ≡ triple_in row.0 = (row.3).numbers in
    (subst IsThreeNumbers (sym value) (triple_in-small row.0 (AreOctets-front row.0 row.1 joined)), triple_row-small ts row.1 (AreOctets-back row.0 row.1 joined) row.4)

pub length-triples : (ts : List (List ℕ)) → AllByRecursion IsThreeNumbers ts → length (flat_map triple_octets ts) ≡ 12 * length ts
length-triples ts all = length-triple_row ts (flat_map triple_octets ts) (Row-triples ts all)
