-- The fields of a header without fault.
use Rattle.bgp_wire.proofs.Std.{◌≡◌, ℕ, ◌≤◌, Bool, true, false, not, cond, ◌||◌, ltb, leb, List, take, Option, Some, None, Result, Ok, Err, refl, sym, ap, subst, arith, leb-true, le-leb, le-ltb, and_parts}
use Rattle.std.proofs.lemmas.Slice.Eq.{bytes_eq-Decides}
use Rattle.bgp_frame.specs.declared.fault.HeadFault.{HeadFault}
use Rattle.bgp_frame.specs.Prelude.{AreTypes, HeaderIn, IsLengthIn, Types, has_marker, head_for_in, head_of_in, is_length_in, length_field, marker, type_field}
use Rattle.bgp_frame.specs.declared.fault.HeadFault.TheVariants as fault
use Rattle.bgp_frame.proofs.Headers.{below_limit}

module _ {K : Type 0} (ty : Types K) (okay : AreTypes ty) where
  pub IsLength-test : (kind : K) (n : ℕ) → is_length_in ty kind n ≡ true → IsLengthIn ty kind n
  IsLength-test kind n e =
      let both = and_parts (leb (ty.least kind) n) (leb n (ty.most kind)) e in
      record { least = leb-true _ _ both.0; most = leb-true _ _ both.1 }

  pub test-IsLength : (kind : K) (n : ℕ) → IsLengthIn ty kind n → is_length_in ty kind n ≡ true
  test-IsLength kind n h = rw (le-leb _ _ h.least, le-leb _ _ h.most) refl

  pub above_18 : (kind : K) (n : ℕ) → IsLengthIn ty kind n → 19 ≤ n
  above_18 kind n h = let least = okay.long kind in omega (arith, h.least)

  -- ---- what a header without fault says

  pub record Says (b : List ℕ) (h : HeaderIn K) : Type 0 where
    pub marked : take 16 b ≡ marker
    pub len_is : length_field b ≡ h.len
    pub type_is : type_field b ≡ ty.code_of h.kind
    pub fits : IsLengthIn ty h.kind h.len

  abbrev pub said : HeaderIn K → Result (HeaderIn K) HeadFault
  said h = Ok h

  pub said_same : (a h : HeaderIn K) → said a ≡ said h → a ≡ h
  said_same a h e = cc

  pub said_not : (f : HeadFault) (h : HeaderIn K) → Err f ≡ said h → ⊥
  said_not f h e = absurd cc

  says_at : (kind : K) (len : ℕ) (h : HeaderIn K) (t : Bool) → is_length_in ty kind len ≡ t → cond t (said (record { kind = kind; len = len })) (Err (fault.Length len)) ≡ said h → (kind ≡ h.kind) × (len ≡ h.len) × (is_length_in ty h.kind h.len ≡ true)
  says_at kind len h true fits e =
      let same = said_same (record { kind = kind; len = len }) h e in
      (ap (λ (a : HeaderIn K). a.kind) same, ap (λ (a : HeaderIn K). a.len) same, subst (λ (a : HeaderIn K). is_length_in ty a.kind a.len ≡ true) same fits)
  says_at kind len h false fits e = absurd (said_not (fault.Length len) h e)

  says_for : (o : Option K) (code len : ℕ) (h : HeaderIn K) → head_for_in ty o code len ≡ said h → (o ≡ Some h.kind) × (len ≡ h.len) × (is_length_in ty h.kind h.len ≡ true)
  says_for None code len h e = absurd (said_not (fault.Kind code) h e)
  says_for (Some kind) code len h e =
      let at = says_at kind len h (is_length_in ty kind len) refl e in
      (ap (λ (k : K). Some k) at.0, at.1, at.2)

  says_behind : (m out : Bool) (o : Option K) (code len : ℕ) (h : HeaderIn K) → cond (not m) (Err fault.Marker) (cond out (Err (fault.Length len)) (head_for_in ty o code len)) ≡ said h
      → (m ≡ true) × (o ≡ Some h.kind) × (len ≡ h.len) × (is_length_in ty h.kind h.len ≡ true)
  says_behind true true o code len h e = absurd (said_not (fault.Length len) h e)
  says_behind true false o code len h e = let s = says_for o code len h e in (refl, s.0, s.1, s.2)
  says_behind false out o code len h e = absurd (said_not fault.Marker h e)

  pub Says-head_of : (b : List ℕ) (h : HeaderIn K) → head_of_in ty b ≡ Ok h → Says b h
  unfolding head_of_in
  Says-head_of b h e =
      let s = says_behind (has_marker b) (ltb (length_field b) 19 || ltb ty.limit (length_field b)) (ty.kind_of (type_field b)) (type_field b) (length_field b) h e in
      record {
        marked = sym ((bytes_eq-Decides marker (take 16 b)).0 s.0);
        len_is = s.2;
        type_is = okay.only (type_field b) h.kind s.1;
        fits = IsLength-test h.kind h.len s.3;
      }

  pub head_of-Says : (b : List ℕ) (h : HeaderIn K) → Says b h → head_of_in ty b ≡ Ok h
  unfolding head_of_in
  head_of-Says b h s =
      let m : has_marker b ≡ true = (bytes_eq-Decides marker (take 16 b)).1 (sym s.marked) in
      let low : ltb h.len 19 ≡ false = le-ltb _ _ (above_18 h.kind h.len s.fits) in
      let high : ltb ty.limit h.len ≡ false = le-ltb _ _ (below_limit ty okay h.kind h.len s.fits) in
      rw (m, s.len_is, s.type_is, low, high, okay.found h.kind h.len s.fits, test-IsLength h.kind h.len s.fits) refl
