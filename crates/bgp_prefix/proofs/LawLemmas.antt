-- The laws of prefixes and runs.
use Rattle.bgp_wire.proofs.Std.{◌≡◌, ◌⊎◌, inl, inr, ℕ, suc, ◌+◌, ◌-◌, ◌*◌, ◌/◌, ◌%◌, ◌<◌, ◌≤◌, Bool, true, false, cond, leb, ltb, ◌&&◌, List, [], ◌∷◌, ◌++◌, length, get_or, take, drop, All, Some, None, refl, sym, ap, ap₂, ◌∙◌, subst, arith, flat_map, bit_at, cases_lt, leb-true, leb-false, le-ltb, get_or_default, same_lists}
use Rattle.std.proofs.lemmas.Bool.{lt-ltb}
use Rattle.std.proofs.lemmas.Nat.Bits.{same_from_bits_below}
use Rattle.std.proofs.lemmas.List.{length-append}
use Rattle.std.proofs.lemmas.List.Elements.{All-head, All-tail}
use Rattle.bgp_wire.specs.Prelude.{AreOctets, Row, IsPrefixFree, Splits}
use Rattle.bgp_wire.proofs.OctetLemmas.{AreOctets-front, AreOctets-back}
use Rattle.bgp_wire.proofs.Pieces.{found, found_not, Reads-prefix_free, Splits-pieces, pieces-Splits}
use Rattle.bgp_wire.proofs.Behinds.{pieces-whole}
use Rattle.bgp_wire.proofs.Walks.{nothing_at}
use Rattle.bgp_prefix.specs.declared.fault.RunFault.TheVariants.{TooLong, PastEnd}
use Rattle.bgp_prefix.specs.Prelude.{octets_for, bit_of, address_of, PrefixValue, IsValid, IsPrefix, HasFirstBits, prefix_of, one_prefix, spelling_of, run_of, run_fault}
use Rattle.bgp_prefix.proofs.BitLemmas.{length-address_of, AreOctets-address_of, bit_of-address_of, HasNoBitPast-address_of}
use Rattle.bgp_prefix.proofs.PrefixLemmas.{IsPrefix-reads, IsPrefix-length, IsPrefix-spelling_of, IsPrefix-valid}

-- ---- bits

-- bit i of what follows the length octet
bit_of-behind : (l : ℕ) (read : List ℕ) (i : ℕ) → bit_of (l ∷ read) (8 + i) ≡ bit_of read i
bit_of-behind l read i =
    let place : (8 + i) / 8 ≡ suc (i / 8) = omega arith in
    let turn : (8 + i) % 8 ≡ i % 8 = omega arith in
    ap₂ (λ (p t : ℕ). bit_at (get_or (l ∷ read) p 0) (7 - t)) place turn

-- octets with the same bits are the same
same_bits : (a b : List ℕ) → AreOctets a → AreOctets b → length a ≡ length b → ((i : ℕ) → bit_of a i ≡ bit_of b i) → a ≡ b
same_bits a b p q len same =
    same_lists a b len (λ k d lt. get_or_default a k d 0 lt ∙ octet k ∙ sym (get_or_default b k d 0 (omega (arith, len, lt))))
  where
    bit : (k j : ℕ) → j < 8 → bit_at (get_or a k 0) j ≡ bit_at (get_or b k 0) j
    bit k j lt =
        let place : (8 * k + (7 - j)) / 8 ≡ k = omega arith in
        let turn : 7 - (8 * k + (7 - j)) % 8 ≡ j = omega arith in
        ap₂ (λ (x t : ℕ). bit_at (get_or a x 0) t) (sym place) (sym turn) ∙ same (8 * k + (7 - j)) ∙ ap₂ (λ (x t : ℕ). bit_at (get_or b x 0) t) place turn

    octet : (k : ℕ) → get_or a k 0 ≡ get_or b k 0
    octet k = same_from_bits_below 8 (get_or a k 0) (get_or b k 0) (p k) (q k) (λ j lt. bit k j lt)

pub kept_bits : (width : ℕ) (p : PrefixValue) (b : List ℕ) → IsPrefix width p b → HasFirstBits width p b
kept_bits width p b s =
    let addr : p.addr ≡ address_of width p.len s.read = ap (λ (q : PrefixValue). q.addr) s.address in
    record {
      wide = ap length addr ∙ length-address_of width p.len s.read (omega (arith, s.least, s.allowed));
      kept = λ i lt. ap (λ (a : List ℕ). bit_of a i) addr ∙ bit_of-address_of width p.len s.read i lt ∙ sym (bit_of-behind p.len s.read i) ∙ ap (λ (x : List ℕ). bit_of x (8 + i)) (sym s.octets);
      zeros = λ i le. ap (λ (a : List ℕ). bit_of a i) addr ∙ HasNoBitPast-address_of width p.len s.read i le;
    }

pub only_bits : (width : ℕ) (p : PrefixValue) (read : List ℕ) → AreOctets p.addr → AreOctets read → p.len ≤ 8 * width → length read ≡ octets_for p.len
    → HasFirstBits width p (p.len ∷ read) → IsPrefix width p (p.len ∷ read)
only_bits width p read octets behind allowed least bits =
    let same : p.addr ≡ address_of width p.len read = same_bits p.addr (address_of width p.len read) octets (AreOctets-address_of width p.len read behind)
    (bits.wide ∙ sym (length-address_of width p.len read (omega (arith, least, allowed)))) each in
    record { read = read; octets = refl; allowed = allowed; least = least; address = ap (λ (a : List ℕ). record { len = p.len; addr = a }) same }
  where
    each : (i : ℕ) → bit_of p.addr i ≡ bit_of (address_of width p.len read) i
    each i = elim (cases_lt i p.len) [
      | inl lt ↦ bits.kept i lt ∙ bit_of-behind p.len read i ∙ sym (bit_of-address_of width p.len read i lt)
      | inr le ↦ bits.zeros i le ∙ sym (HasNoBitPast-address_of width p.len read i le)
    ]

-- ---- splits and faults

module _ (width : ℕ) where
  pub prefix_free : IsPrefixFree (IsPrefix width)
  prefix_free = Reads-prefix_free PrefixValue (IsPrefix width) (one_prefix width) (IsPrefix-reads width)

  pub run_splits : (b : List ℕ) → Splits (IsPrefix width) b (run_of width b).0 (run_of width b).1
  run_splits b = Splits-pieces PrefixValue (IsPrefix width) (one_prefix width) (IsPrefix-reads width) b

  pub split_is_run : (b : List ℕ) (prefixes : List PrefixValue) (rest : List ℕ) → Splits (IsPrefix width) b prefixes rest → run_of width b ≡ (prefixes, rest)
  split_is_run b prefixes rest s = pieces-Splits PrefixValue (IsPrefix width) (one_prefix width) (IsPrefix-reads width) b prefixes rest s

  -- no prefix is at the front of the rest
  stuck_none : (b : List ℕ) (prefixes : List PrefixValue) (rest : List ℕ) → run_of width b ≡ (prefixes, rest) → one_prefix width rest ≡ None
  stuck_none b prefixes rest e =
      ap (λ (q : List PrefixValue × List ℕ). one_prefix width q.1) (sym e) ∙ nothing_at PrefixValue (IsPrefix width) (one_prefix width) (IsPrefix-reads width) b

  why : (l : ℕ) (rest : List ℕ) (s t : Bool) → leb l (8 * width) ≡ s → leb (octets_for l) (length rest) ≡ t
      → cond (s && t) (found PrefixValue (prefix_of width l (take (octets_for l) rest), drop (octets_for l) rest)) None ≡ None
      → ((8 * width < l) × (run_fault width (l ∷ rest) ≡ Some TooLong)) ⊎ ((l ≤ 8 * width) × (length rest < octets_for l) × (run_fault width (l ∷ rest) ≡ Some PastEnd))
  why l rest true true p q e = absurd (found_not PrefixValue _ (sym e))
  why l rest true false p q e =
      let small : ltb (8 * width) l ≡ false = le-ltb _ _ (leb-true _ _ p) in
      inr (leb-true _ _ p, leb-false _ _ q, rw small refl)
  why l rest false t p q e =
      let big : ltb (8 * width) l ≡ true = lt-ltb _ _ (leb-false _ _ p) in
      inl (leb-false _ _ p, rw big refl)

  pub fault_why : (b : List ℕ) (prefixes : List PrefixValue) (l : ℕ) (rest : List ℕ) → run_of width b ≡ (prefixes, l ∷ rest)
      → ((8 * width < l) × (run_fault width (l ∷ rest) ≡ Some TooLong)) ⊎ ((l ≤ 8 * width) × (length rest < octets_for l) × (run_fault width (l ∷ rest) ≡ Some PastEnd))
  unfolding one_prefix
  fault_why b prefixes l rest e = why l rest (leb l (8 * width)) (leb (octets_for l) (length rest)) refl refl (stuck_none b prefixes (l ∷ rest) e)

  -- ---- written runs

  pub Row-written : (ps : List PrefixValue) → All (IsValid width) ps → Row (IsPrefix width) ps (flat_map spelling_of ps)
  Row-written [] valid = refl
  Row-written (p ∷ ps) valid =
      (spelling_of p, flat_map spelling_of ps, refl, IsPrefix-spelling_of width p (All-head (IsValid width) p ps valid), Row-written ps (All-tail (IsValid width) p ps valid))

  pub row_is_run : (ps : List PrefixValue) (b : List ℕ) → Row (IsPrefix width) ps b → run_of width b ≡ (ps, [])
  row_is_run ps b row = pieces-whole PrefixValue (IsPrefix width) (one_prefix width) (IsPrefix-reads width) ps b row

  pub written_is_run : (ps : List PrefixValue) → All (IsValid width) ps → run_of width (flat_map spelling_of ps) ≡ (ps, [])
  written_is_run ps valid = row_is_run ps (flat_map spelling_of ps) (Row-written ps valid)

  -- the prefix of a spelling, written again
  pub rewritten : (p : PrefixValue) (b : List ℕ) → AreOctets b → IsPrefix width p b → IsPrefix width p (spelling_of p) × (length (spelling_of p) ≡ length b)
  rewritten p b octets s =
      let again = IsPrefix-spelling_of width p (IsPrefix-valid width p b octets s) in
      (again, IsPrefix-length width p (spelling_of p) again ∙ sym (IsPrefix-length width p b s))

  pub Row-rewritten : (ps : List PrefixValue) (b : List ℕ) → AreOctets b → Row (IsPrefix width) ps b
      → Row (IsPrefix width) ps (flat_map spelling_of ps) × (length (flat_map spelling_of ps) ≡ length b)
  Row-rewritten [] b octets row = (refl, ap length (sym row))
  Row-rewritten (p ∷ ps) b octets row =
      let joined : AreOctets (row.0 ++ row.1) = subst AreOctets row.2 octets in
      let first = rewritten p row.0 (AreOctets-front row.0 row.1 joined) row.3 in
      let rest = Row-rewritten ps row.1 (AreOctets-back row.0 row.1 joined) row.4 in (
        (spelling_of p, flat_map spelling_of ps, refl, first.0, rest.0),
        length-append (spelling_of p) (flat_map spelling_of ps) ∙ ap₂ ◌+◌ first.1 rest.1 ∙ sym (length-append row.0 row.1) ∙ ap length (sym row.2),
      )
