-- Prefixes are read as they are spelled, and what is written is one spelling.
use Rattle.bgp_wire.proofs.Std.{◌≡◌, ℕ, suc, ◌*◌, ◌≤◌, Bool, true, false, cond, leb, ◌&&◌, List, [], ◌∷◌, ◌++◌, length, take, drop, Some, None, refl, sym, ap, ◌∙◌, subst, arith, leb-true, le-leb, and_parts, take_at, drop_at, take-append-drop}
use Rattle.std.proofs.lemmas.List.{length-append, length-take}
use Rattle.bgp_wire.specs.Prelude.{AreOctets, Reads}
use Rattle.bgp_wire.proofs.Pieces.{found, found_same, found_not}
use Rattle.bgp_prefix.specs.Prelude.{octets_for, address_of, PrefixValue, IsValid, IsPrefix, prefix_of, one_prefix, spelling_of}
use Rattle.bgp_prefix.proofs.BitLemmas.{length-address_of, AreOctets-address_of, HasNoBitPast-address_of, leading_bits-whole, address_of-take}

module _ (width : ℕ) where
  -- ---- the reader

  IsPrefix-finds : (p : PrefixValue) (front back : List ℕ) → IsPrefix width p front → one_prefix width (front ++ back) ≡ Some (p, back)
  unfolding one_prefix
  IsPrefix-finds p front back s =
      let allowed : leb p.len (8 * width) ≡ true = le-leb _ _ s.allowed in
      let there : leb (octets_for p.len) (length (s.read ++ back)) ≡ true = le-leb _ _ (omega (arith, length-append s.read back, s.least)) in
      ap (λ (x : List ℕ). one_prefix width (x ++ back)) s.octets
      ∙ rw (allowed, there, take_at s.read back (octets_for p.len) s.least, drop_at s.read back (octets_for p.len) s.least) (ap (λ (w : PrefixValue). Some (w, back)) (sym s.address))

  one_gives : (l : ℕ) (b : List ℕ) (p : PrefixValue) (back : List ℕ) (t : Bool) → (leb l (8 * width) && leb (octets_for l) (length b)) ≡ t
      → cond t (found PrefixValue (prefix_of width l (take (octets_for l) b), drop (octets_for l) b)) None ≡ Some (p, back)
      → (front : List ℕ) × (l ∷ b ≡ front ++ back) × IsPrefix width p front
  one_gives l b p back true both e =
      let k = octets_for l in
      let tests = and_parts (leb l (8 * width)) (leb k (length b)) both in
      let held : length (take k b) ≡ k = omega (arith, length-take k b, leb-true _ _ tests.1) in
      subst (λ (q : PrefixValue × List ℕ). (front : List ℕ) × (l ∷ b ≡ front ++ q.1) × IsPrefix width q.0 front)
      (found_same PrefixValue (prefix_of width l (take k b), drop k b) (p, back) e) (
        l ∷ take k b,
        ap (λ (x : List ℕ). l ∷ x) (sym (take-append-drop k b)),
        record {
          read = take k b;
          octets = refl;
          allowed = leb-true _ _ tests.0;
          least = held;
          address = refl;
        },
      )
  one_gives l b p back false both e = absurd (found_not PrefixValue (p, back) e)

  IsPrefix-gives : (b : List ℕ) (p : PrefixValue) (back : List ℕ) → one_prefix width b ≡ Some (p, back) → (front : List ℕ) × (b ≡ front ++ back) × IsPrefix width p front
  unfolding one_prefix
  IsPrefix-gives [] p back e = absurd (found_not PrefixValue (p, back) e)
  IsPrefix-gives (l ∷ b) p back e = one_gives l b p back (leb l (8 * width) && leb (octets_for l) (length b)) refl e

  pub IsPrefix-length : (p : PrefixValue) (b : List ℕ) → IsPrefix width p b → length b ≡ suc (octets_for p.len)
  IsPrefix-length p b s = ap length s.octets ∙ ap suc s.least

  pub IsPrefix-reads : Reads (IsPrefix width) (one_prefix width)
  IsPrefix-reads = record {
    not_empty = λ p b s. omega (arith, IsPrefix-length p b s);
    finds = IsPrefix-finds;
    gives = IsPrefix-gives;
  }

  -- ---- what holds of each prefix

  pub prefix_of-valid : (l : ℕ) (b : List ℕ) → l ≤ 8 * width → length b ≡ octets_for l → AreOctets b → IsValid width (prefix_of width l b)
  prefix_of-valid l b allowed least octets =
      let wide : length (address_of width l b) ≡ width = length-address_of width l b (omega arith) in
      record {
        allowed = allowed;
        wide = wide;
        octets = AreOctets-address_of width l b octets;
        zeros = leading_bits-whole (address_of width l b) l (AreOctets-address_of width l b octets) (HasNoBitPast-address_of width l b);
      }

  -- the prefix that octets spell
  pub IsPrefix-valid : (p : PrefixValue) (b : List ℕ) → AreOctets b → IsPrefix width p b → IsValid width p
  IsPrefix-valid p b octets s =
      let read : AreOctets s.read = λ i. subst AreOctets s.octets octets (suc i) in
      subst (IsValid width) (sym s.address) (prefix_of-valid p.len s.read s.allowed s.least read)

  -- what is written is a spelling
  pub IsPrefix-spelling_of : (p : PrefixValue) → IsValid width p → IsPrefix width p (spelling_of p)
  unfolding spelling_of
  IsPrefix-spelling_of p valid = record {
    read = take (octets_for p.len) p.addr;
    octets = refl;
    allowed = valid.allowed;
    least = omega (arith, length-take (octets_for p.len) p.addr, valid.wide, valid.allowed);
    address = ap (λ (a : List ℕ). record { len = p.len; addr = a }) (sym (address_of-take width p.len p.addr valid.wide valid.allowed valid.octets valid.zeros));
  }
