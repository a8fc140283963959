-- The first bits of octets: which bits they have, and how they are computed octet by octet.
use Rattle.bgp_wire.proofs.Std.{◌≡◌, ℕ, zero, suc, Bool, eqb, IsTrue, ◌+◌, ◌-◌, ◌*◌, ◌/◌, ◌%◌, ◌^◌, ◌<◌, ◌≤◌, List, [], ◌∷◌, ◌++◌, length, get_or, take, drop, set, replicate, refl, sym, ap, ◌∙◌, append_assoc, add-zero, arith, inl, inr, ap₂, bit_at, cases_lt, pow_pos, pow-add, length-replicate, get_or-replicate, get_or_past, get_or_append_left, get_or-append_right, same_lists, get_or_default, take_more, take-take, set_at, take-append-drop}
use Rattle.std.specs.Cmp.Lexicographic.{pointwise}
use Rattle.std.proofs.Math.Nat.{div-div-eq-div-mul, div-mul-le_self}
use Rattle.std.proofs.lemmas.Nat.Bits.{bit_at-zero, bit_at_cat_low, bit_at_cat_high, same_from_bits_below}
use Rattle.std.proofs.lemmas.List.{append-nil, length-append, take_all, length-take, length-drop}
use Rattle.std.proofs.lemmas.Bool.Decides.{Decides-eqb}
use Rattle.std.proofs.lemmas.Slice.Eq.{slice_eq-Decides}
use Rattle.bgp_wire.specs.Prelude.{AreOctets}
use Rattle.bgp_wire.proofs.OctetLemmas.{AreOctets-append, AreOctets-drop}
use Rattle.bgp_prefix.specs.Prelude.{octets_for, bit_of, HasNoBitPast, first_bits, leading_bits, address_of}

-- ---- one octet

module _ (l x j : ℕ) where
  as_sum : first_bits l x ≡ x / 2 ^ (8 - l) * 2 ^ (8 - l) + 0
  unfolding first_bits
  as_sum = sym (add-zero (x / 2 ^ (8 - l) * 2 ^ (8 - l)))

  pub bit_at-first_bits_past : j < 8 - l → bit_at (first_bits l x) j ≡ 0
  bit_at-first_bits_past lt = ap (λ (n : ℕ). bit_at n j) as_sum ∙ bit_at_cat_low (x / 2 ^ (8 - l)) (8 - l) 0 j lt ∙ bit_at-zero j

  shifted : (k : ℕ) → k ≤ j → bit_at (x / 2 ^ k) (j - k) ≡ bit_at x j
  shifted k le =
      let whole : k + (j - k) ≡ j = omega arith in
      ap (λ (n : ℕ). n % 2) (div-div-eq-div-mul x (2 ^ k) (2 ^ (j - k)) ∙ ap (λ (n : ℕ). x / n) (sym (pow-add 2 k (j - k)) ∙ ap (λ (e : ℕ). 2 ^ e) whole))

  pub bit_at-first_bits_within : 8 - l ≤ j → bit_at (first_bits l x) j ≡ bit_at x j
  bit_at-first_bits_within le =
      ap (λ (n : ℕ). bit_at n j) as_sum ∙ bit_at_cat_high (x / 2 ^ (8 - l)) (8 - l) 0 j (pow_pos (8 - l)) le ∙ shifted (8 - l) le

pub first_bits-le : (l x : ℕ) → first_bits l x ≤ x
unfolding first_bits
first_bits-le l x = div-mul-le_self x (2 ^ (8 - l))

pub first_bits-zero : (l : ℕ) → first_bits l 0 ≡ 0
first_bits-zero l = omega (arith, first_bits-le l 0)

-- no bit of an octet is among the first none
pub first_bits_none : (x : ℕ) → x < 256 → first_bits 0 x ≡ 0
unfolding first_bits
first_bits_none x lt = omega arith

-- ---- octets

pub length-leading_bits : (b : List ℕ) (l : ℕ) → length (leading_bits l b) ≡ length b
length-leading_bits [] l = refl
length-leading_bits (x ∷ b) l = ap suc (length-leading_bits b (l - 8))

pub leading_bits-append : (a b : List ℕ) (l : ℕ) → leading_bits l (a ++ b) ≡ leading_bits l a ++ leading_bits (l - 8 * length a) b
leading_bits-append [] b l = ap (λ (n : ℕ). leading_bits n b) (omega arith)
leading_bits-append (x ∷ a) b l =
    let later : (l - 8) - 8 * length a ≡ l - 8 * suc (length a) = omega arith in
    ap (λ (c : List ℕ). first_bits l x ∷ c) (leading_bits-append a b (l - 8) ∙ ap (λ (n : ℕ). leading_bits (l - 8) a ++ leading_bits n b) later)

pub get_or-leading_bits : (b : List ℕ) (l i : ℕ) → get_or (leading_bits l b) i 0 ≡ first_bits (l - 8 * i) (get_or b i 0)
get_or-leading_bits [] l i = sym (first_bits-zero (l - 8 * i))
get_or-leading_bits (x ∷ b) l zero = ap (λ (n : ℕ). first_bits n x) (omega arith)
get_or-leading_bits (x ∷ b) l (suc i) =
    let later : (l - 8) - 8 * i ≡ l - 8 * suc i = omega arith in
    get_or-leading_bits b (l - 8) i ∙ ap (λ (n : ℕ). first_bits n (get_or b i 0)) later

pub leading_bits_none : (b : List ℕ) → AreOctets b → leading_bits 0 b ≡ replicate (length b) 0
leading_bits_none [] octets = refl
leading_bits_none (x ∷ b) octets = ap₂ ◌∷◌ (first_bits_none x (octets 0)) (leading_bits_none b (λ i. octets (suc i)))

pub AreOctets-leading_bits : (b : List ℕ) (l : ℕ) → AreOctets b → AreOctets (leading_bits l b)
AreOctets-leading_bits b l octets i =
    rw get_or-leading_bits (omega (arith, first_bits-le (l - 8 * i) (get_or b i 0), octets i))

get_or-zeros : (n i : ℕ) → get_or {A = ℕ} (replicate n 0) i 0 ≡ 0
get_or-zeros n i = elim (cases_lt i n) [
  | inl lt ↦ get_or-replicate {A = ℕ} n i 0 0 lt
  | inr le ↦ get_or_past {X = ℕ} (replicate n 0) i 0 (omega (arith, length-replicate {A = ℕ} n 0))
]

AreOctets-zeros : (n : ℕ) → AreOctets (replicate n 0)
AreOctets-zeros n i = omega (arith, get_or-zeros n i)

-- the first bits are kept, and the others are 0
pub bit_of-leading_bits : (b : List ℕ) (l i : ℕ) → i < l → bit_of (leading_bits l b) i ≡ bit_of b i
bit_of-leading_bits b l i lt =
    ap (λ (n : ℕ). bit_at n (7 - i % 8)) (get_or-leading_bits b l (i / 8))
    ∙ bit_at-first_bits_within (l - 8 * (i / 8)) (get_or b (i / 8) 0) (7 - i % 8) (omega arith)

pub HasNoBitPast-leading_bits : (b : List ℕ) (l : ℕ) → HasNoBitPast l (leading_bits l b)
HasNoBitPast-leading_bits b l i le =
    ap (λ (n : ℕ). bit_at n (7 - i % 8)) (get_or-leading_bits b l (i / 8))
    ∙ bit_at-first_bits_past (l - 8 * (i / 8)) (get_or b (i / 8) 0) (7 - i % 8) (omega arith)

-- where no other bit is set, the first bits are all
same_octet : (b : List ℕ) (l q j : ℕ) → HasNoBitPast l b → j < 8 → bit_at (first_bits (l - 8 * q) (get_or b q 0)) j ≡ bit_at (get_or b q 0) j
same_octet b l q j none lt = elim (cases_lt j (8 - (l - 8 * q))) [
  | inl past ↦
      let place : (8 * q + (7 - j)) / 8 ≡ q = omega arith in
      let turn : 7 - (8 * q + (7 - j)) % 8 ≡ j = omega arith in
      let unset : bit_of b (8 * q + (7 - j)) ≡ 0 = none (8 * q + (7 - j)) (omega arith) in
      bit_at-first_bits_past (l - 8 * q) (get_or b q 0) j past ∙ sym unset ∙ ap₂ (λ (p t : ℕ). bit_at (get_or b p 0) t) place turn
  | inr within ↦ bit_at-first_bits_within (l - 8 * q) (get_or b q 0) j within
]

pub leading_bits-whole : (b : List ℕ) (l : ℕ) → AreOctets b → HasNoBitPast l b → leading_bits l b ≡ b
leading_bits-whole b l octets none =
    same_lists _ _ (length-leading_bits b l) (λ q d lt. get_default (leading_bits l b) q d lt ∙ at_zero q ∙ sym (get_default b q d (omega (arith, length-leading_bits b l))))
  where
    at_zero : (q : ℕ) → get_or (leading_bits l b) q 0 ≡ get_or b q 0
    at_zero q =
        get_or-leading_bits b l q
        ∙ same_from_bits_below 8 _ _ (omega (arith, first_bits-le (l - 8 * q) (get_or b q 0), octets q)) (octets q) (λ j lt. same_octet b l q j none lt)

    get_default : (xs : List ℕ) (i d : ℕ) → i < length xs → get_or xs i d ≡ get_or xs i 0
    get_default xs i d lt = get_or_default xs i d 0 lt

-- ---- an address

get_or-padded : (b : List ℕ) (n i : ℕ) → get_or {A = ℕ} (b ++ replicate n 0) i 0 ≡ get_or b i 0
get_or-padded b n i = elim (cases_lt i (length b)) [
  | inl lt ↦ get_or_append_left b (replicate n 0) 0 i lt
  | inr le ↦ get_or-append_right b (replicate n 0) (length b) i 0 refl le ∙ get_or-zeros n (i - length b) ∙ sym (get_or_past b i 0 le)
]

pub length-address_of : (width l : ℕ) (b : List ℕ) → length b ≤ width → length (address_of width l b) ≡ width
unfolding address_of
length-address_of width l b le =
    length-append (leading_bits l b) (replicate (width - length b) 0) ∙ ap₂ ◌+◌ (length-leading_bits b l) (length-replicate (width - length b) 0) ∙ omega arith

pub AreOctets-address_of : (width l : ℕ) (b : List ℕ) → AreOctets b → AreOctets (address_of width l b)
unfolding address_of
AreOctets-address_of width l b octets =
    AreOctets-append (leading_bits l b) (replicate (width - length b) 0) (AreOctets-leading_bits b l octets) (AreOctets-zeros (width - length b))

bit_of-padded : (b : List ℕ) (n i : ℕ) → bit_of (b ++ replicate n 0) i ≡ bit_of b i
bit_of-padded b n i = ap (λ (x : ℕ). bit_at x (7 - i % 8)) (get_or-padded b n (i / 8))

pub bit_of-address_of : (width l : ℕ) (b : List ℕ) (i : ℕ) → i < l → bit_of (address_of width l b) i ≡ bit_of b i
unfolding address_of
bit_of-address_of width l b i lt = bit_of-padded (leading_bits l b) (width - length b) i ∙ bit_of-leading_bits b l i lt

pub HasNoBitPast-address_of : (width l : ℕ) (b : List ℕ) → HasNoBitPast l (address_of width l b)
unfolding address_of
HasNoBitPast-address_of width l b i le = bit_of-padded (leading_bits l b) (width - length b) i ∙ HasNoBitPast-leading_bits b l i le

-- an address is its own first bits where no other bit is set, and only there
pub address_of-whole : (width l : ℕ) (b : List ℕ) → length b ≡ width → address_of width l b ≡ leading_bits l b
unfolding address_of
address_of-whole width l b e =
    let none : width - length b ≡ 0 = omega arith in
    ap (λ (n : ℕ). leading_bits l b ++ replicate n 0) none ∙ append-nil (leading_bits l b)

pub HasNoBitPast-whole : (b : List ℕ) (l : ℕ) → leading_bits l b ≡ b → HasNoBitPast l b
HasNoBitPast-whole b l e i le = sym (ap (λ (c : List ℕ). bit_of c i) e) ∙ HasNoBitPast-leading_bits b l i le

-- the octets that hold the first bits are enough
pub address_of-first : (width l : ℕ) (addr : List ℕ) → length addr ≡ width → l ≤ 8 * width → AreOctets addr → address_of width l (take (octets_for l) addr) ≡ leading_bits l addr
unfolding address_of
address_of-first width l addr wide le octets =
    let k = octets_for l in
    let held : length (take k addr) ≡ k = omega (arith, length-take k addr) in
    let rest : width - length (take k addr) ≡ length (drop k addr) = omega (arith, length-drop k addr) in
    let past : l - 8 * length (take k addr) ≡ 0 = omega arith in
    ap (λ (n : ℕ). leading_bits l (take k addr) ++ replicate n 0) rest
    ∙ ap (λ (c : List ℕ). leading_bits l (take k addr) ++ c) (sym (leading_bits_none (drop k addr) (AreOctets-drop k addr octets)))
    ∙ ap (λ (n : ℕ). leading_bits l (take k addr) ++ leading_bits n (drop k addr)) (sym past)
    ∙ sym (leading_bits-append (take k addr) (drop k addr) l)
    ∙ ap (leading_bits l) (take-append-drop k addr)

pub address_of-take : (width l : ℕ) (addr : List ℕ) → length addr ≡ width → l ≤ 8 * width → AreOctets addr → leading_bits l addr ≡ addr → address_of width l (take (octets_for l) addr) ≡ addr
address_of-take width l addr wide le octets whole = address_of-first width l addr wide le octets ∙ whole

-- octets after those are ignored
pub address_of-chunk : (width l : ℕ) (chunk behind read : List ℕ) → length chunk ≡ width → l ≤ 8 * width → AreOctets chunk → chunk ≡ take width behind → read ≡ take (octets_for l) behind → address_of width l chunk ≡ address_of width l read
address_of-chunk width l chunk behind read wide le octets front held =
    address_of-whole width l chunk wide ∙ sym (address_of-first width l chunk wide le octets)
    ∙ ap (address_of width l) (ap (take (octets_for l)) front ∙ take-take (octets_for l) width behind (omega (arith, le)) ∙ sym held)

-- ---- the loop that fills an address

pub address_more : (width l i left : ℕ) (b addr : List ℕ) (x : ℕ) → i < length b → length b ≤ width → left ≡ l - 8 * i
    → addr ≡ leading_bits l (take i b) ++ replicate (width - i) 0 → x ≡ first_bits left (get_or b i 0)
    → set addr i x ≡ leading_bits l (take (i + 1) b) ++ replicate (width - (i + 1)) 0
address_more width l i left b addr x lt le left_is addr_is x_is =
    let more : width - i ≡ suc (width - (i + 1)) = omega arith in
    let front : length (take i b) ≡ i = omega (arith, length-take i b) in
    let filled : length (leading_bits l (take i b)) ≡ i = length-leading_bits (take i b) l ∙ front in
    let same : l - 8 * length (take i b) ≡ left = ap (λ (n : ℕ). l - 8 * n) front ∙ sym left_is in
    let pushed : leading_bits l (take (i + 1) b) ≡ leading_bits l (take i b) ++ x ∷ [] =
    ap (leading_bits l) (take_more b i 0 lt) ∙ leading_bits-append (take i b) (get_or b i 0 ∷ []) l
    ∙ ap (λ (n : ℕ). leading_bits l (take i b) ++ first_bits n (get_or b i 0) ∷ []) same ∙ ap (λ (n : ℕ). leading_bits l (take i b) ++ n ∷ []) (sym x_is) in
    ap (λ (c : List ℕ). set c i x) (addr_is ∙ ap (λ (n : ℕ). leading_bits l (take i b) ++ replicate {A = ℕ} n 0) more)
    ∙ set_at (leading_bits l (take i b)) 0 (replicate (width - (i + 1)) 0) x i filled
    ∙ sym (append_assoc (leading_bits l (take i b)) (x ∷ []) (replicate (width - (i + 1)) 0))
    ∙ ap (λ (c : List ℕ). c ++ replicate {A = ℕ} (width - (i + 1)) 0) (sym pushed)

pub address_done : (width l i : ℕ) (b addr : List ℕ) → i ≤ length b → length b ≤ i → addr ≡ leading_bits l (take i b) ++ replicate (width - i) 0 → addr ≡ address_of width l b
unfolding address_of
address_done width l i b addr le ge addr_is =
    addr_is ∙ ap₂ (λ (c : List ℕ) (n : ℕ). leading_bits l c ++ replicate {A = ℕ} (width - n) 0) (take_all i b ge) (omega arith)

-- ---- the test whether an address has bits past the first ones

pub is_clear_iff : (width l : ℕ) (b found : List ℕ) (t : Bool) → length b ≡ width → AreOctets b → found ≡ address_of width l b → t ≡ pointwise eqb found b → (IsTrue t → HasNoBitPast l b) × (HasNoBitPast l b → IsTrue t)
is_clear_iff width l b found t wide octets found_is t_is =
    let same : found ≡ leading_bits l b = found_is ∙ address_of-whole width l b wide in
    let tells = slice_eq-Decides Decides-eqb found b t t_is in (
      λ yes. HasNoBitPast-whole b l (sym same ∙ tells.0 yes),
      λ none. tells.1 (same ∙ leading_bits-whole b l octets none),
    )
