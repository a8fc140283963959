-- Prefixes that are written as they are in octets.
use Rattle.bgp_wire.proofs.Std.{◌≡◌, ℕ, ◌+◌, ◌-◌, ◌*◌, ◌<◌, ◌≤◌, List, [], ◌∷◌, ◌++◌, length, take, replicate, refl, sym, ap, ap₂, ◌∙◌, append_assoc, arith, take-append_seam}
use Rattle.std.specs.Int.Bits.{bit_and}
use Rattle.std.proofs.lemmas.List.{length-append}
use Rattle.bgp_prefix.specs.Prelude.{octets_for, first_bits, leading_bits, address_of, prefix_of, spelling_of, mask_of}
use Rattle.bgp_prefix.proofs.BitLemmas.{length-leading_bits, leading_bits-append}
use Rattle.bgp_prefix.proofs.MaskLemmas.{masked}

-- all bits of an octet
first_bits_all : (l x : ℕ) → 8 ≤ l → first_bits l x ≡ x
unfolding first_bits
first_bits_all l x le = let none : 8 - l ≡ 0 = omega arith in rw none (omega arith)

leading_bits_all : (b : List ℕ) (l : ℕ) → 8 * length b ≤ l → leading_bits l b ≡ b
leading_bits_all [] l le = refl
leading_bits_all (x ∷ b) l le = ap₂ ◌∷◌ (first_bits_all l x (omega (arith, le))) (leading_bits_all b (l - 8) (omega (arith, le)))

-- the octets that are written for a prefix are those that were read, with 0 for the bits past the length
pub written_front : (width l : ℕ) (read : List ℕ) → length read ≡ octets_for l → spelling_of (prefix_of width l read) ≡ l ∷ leading_bits l read
unfolding spelling_of address_of
written_front width l read held =
    ap (λ (b : List ℕ). l ∷ b)
    (ap (λ (n : ℕ). take n (leading_bits l read ++ replicate (width - length read) 0)) (sym held ∙ sym (length-leading_bits read l))
    ∙ take-append_seam (leading_bits l read) (replicate (width - length read) 0))

pub last_cleared : (l : ℕ) (read whole : List ℕ) (last : ℕ) → length read ≡ octets_for l → read ≡ whole ++ last ∷ [] → last < 256
    → whole ++ bit_and last (mask_of l (length whole)) ∷ [] ≡ leading_bits l read
last_cleared l read whole last held are small =
    let long : length whole + 1 ≡ octets_for l = omega (arith, held, ap length are, length-append whole (last ∷ [])) in
    ap (λ (x : ℕ). whole ++ x ∷ []) (masked l (length whole) last small)
    ∙ ap (λ (b : List ℕ). b ++ first_bits (l - 8 * length whole) last ∷ []) (sym (leading_bits_all whole l (omega (arith, long))))
    ∙ sym (leading_bits-append whole (last ∷ []) l)
    ∙ ap (leading_bits l) (sym are)

-- a length, all octets but the last, and the last
pub front_written : (l : ℕ) (read whole : List ℕ) (last : ℕ) (old a b c : List ℕ) → length read ≡ octets_for l → read ≡ whole ++ last ∷ [] → last < 256
    → a ≡ old ++ l ∷ [] → b ≡ a ++ whole → c ≡ b ++ bit_and last (mask_of l (length whole)) ∷ [] → c ≡ old ++ l ∷ leading_bits l read
front_written l read whole last old a b c held are small e f g =
    let x : ℕ = bit_and last (mask_of l (length whole)) in
    g ∙ ap (λ (y : List ℕ). y ++ x ∷ []) (f ∙ ap (λ (y : List ℕ). y ++ whole) e) ∙ append_assoc (old ++ l ∷ []) whole (x ∷ []) ∙ append_assoc old (l ∷ []) (whole ++ x ∷ [])
    ∙ ap (λ (y : List ℕ). old ++ l ∷ y) (last_cleared l read whole last held are small)

-- where the last octet has no bits past the length, all octets are as they are written
pub clear_front : (l : ℕ) (read whole : List ℕ) (last : ℕ) → length read ≡ octets_for l → read ≡ whole ++ last ∷ [] → last < 256
    → bit_and last (mask_of l (length whole)) ≡ last → leading_bits l read ≡ read
clear_front l read whole last held are small same =
    sym (last_cleared l read whole last held are small) ∙ ap (λ (x : ℕ). whole ++ x ∷ []) same ∙ sym are

-- what is read from octets that begin with such a prefix is written as it is there
pub clear_more : (width l : ℕ) (read after octets : List ℕ) → length read ≡ octets_for l → leading_bits l read ≡ read → octets ≡ l ∷ (read ++ after)
    → spelling_of (prefix_of width l read) ++ after ≡ octets
clear_more width l read after octets held clear are =
    ap (λ (b : List ℕ). b ++ after) (written_front width l read held ∙ ap (λ (b : List ℕ). l ∷ b) clear) ∙ sym are
