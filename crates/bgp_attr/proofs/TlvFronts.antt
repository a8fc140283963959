-- An attribute at the front of octets, as the code splits it off.
use Rattle.bgp_wire.proofs.Std.{◌≡◌, ℕ, suc, ◌+◌, ◌-◌, ◌<◌, ◌≤◌, Bool, true, false, cond, List, [], ◌∷◌, ◌++◌, length, get_or, take, drop, Option, Some, None, refl, sym, ap, subst, ◌∙◌, arith, w16, to_be_bytes, from_be_bytes, take-append-add, le-leb, lt-leb, be_bytes_2}
use Rattle.std.proofs.lemmas.List.{length-append, length-take, length-drop, take_all}
use Rattle.bgp_wire.specs.Prelude.{AreOctets, ◌>>=◌, first_octets}
use Rattle.bgp_wire.proofs.Firsts.{first_octets-at}
use Rattle.bgp_wire.proofs.OctetLemmas.{AreOctets-take}
use Rattle.bgp_wire.proofs.Pieces.{found_same, found_not}
use Rattle.bgp_attr.specs.Prelude.{is_extended, TlvValue, length_width, one_tlv, length_octets, tlv_octets, length_field}
use Rattle.bgp_attr.proofs.Readers.{tlv_with, with_value, behind_size}

-- the octets before what follows a value
whole_cut : (front b : List ℕ) (n : ℕ) → n ≤ length b → take (length (front ++ b) - length (drop n b)) (front ++ b) ≡ front ++ take n b
whole_cut front b n le =
    let count : length (front ++ b) - length (drop n b) ≡ length front + n = omega (arith, length-append front b, length-drop n b) in
    ap (λ (m : ℕ). take m (front ++ b)) count ∙ take-append-add front b n

value_taken : (flags kind n : ℕ) (size b : List ℕ) → n ≤ length b → (first_octets n b >>= with_value flags kind size) ≡ Some (tlv_with flags kind size (take n b), drop n b)
value_taken flags kind n size b le = rw (le-leb n (length b) le) refl

value_short : (flags kind n : ℕ) (size b : List ℕ) → length b < n → (first_octets n b >>= with_value flags kind size) ≡ None
value_short flags kind n size b lt = rw (lt-leb n (length b) lt) refl

-- the attribute as the code reads it: its octets are all before what follows the value
abbrev pub cut_tlv : ℕ → ℕ → List ℕ → ℕ → List ℕ → TlvValue
cut_tlv flags kind b n rest = record { flags = flags; kind = kind; whole = take (length (flags ∷ kind ∷ b) - length (drop n rest)) (flags ∷ kind ∷ b); value = take n rest }

module _ (flags kind : ℕ) where
  behind_width : (width : ℕ) (size b : List ℕ) → length_width flags ≡ width → length size ≡ width → one_tlv (flags ∷ kind ∷ (size ++ b)) ≡ behind_size flags kind (size, b)
  unfolding one_tlv
  behind_width width size b is long =
      ap (λ (o : Option (List ℕ × List ℕ)). o >>= behind_size flags kind) (first_octets-at (length_width flags) size b (long ∙ sym is))

  one_tlv-ext : (high low : ℕ) (b : List ℕ) → is_extended flags ≡ true
      → one_tlv (flags ∷ kind ∷ high ∷ low ∷ b) ≡ (first_octets (from_be_bytes w16 (high ∷ low ∷ [])) b >>= with_value flags kind (high ∷ low ∷ []))
  one_tlv-ext high low b is = behind_width 2 (high ∷ low ∷ []) b (ap (λ (t : Bool). cond t 2 1) is) refl

  one_tlv-short : (n : ℕ) (b : List ℕ) → is_extended flags ≡ false → one_tlv (flags ∷ kind ∷ n ∷ b) ≡ (first_octets n b >>= with_value flags kind (n ∷ []))
  one_tlv-short n b is = behind_width 1 (n ∷ []) b (ap (λ (t : Bool). cond t 2 1) is) refl

  cut_whole : (size b : List ℕ) (n : ℕ) → n ≤ length b → tlv_with flags kind size (take n b) ≡ cut_tlv flags kind (size ++ b) n b
  cut_whole size b n le =
      ap (λ (w : List ℕ). record { flags = flags; kind = kind; whole = w; value = take n b }) (sym (whole_cut (flags ∷ kind ∷ size) b n le))

  cut_at : (ext : Bool) → is_extended flags ≡ ext → (b : List ℕ) (n : ℕ) (rest : List ℕ) → Some (n, rest) ≡ length_field ext b → n ≤ length rest
      → one_tlv (flags ∷ kind ∷ b) ≡ Some (cut_tlv flags kind b n rest, drop n rest)
  cut_at true is (high ∷ low ∷ b) n rest e le =
      let same = found_same ℕ (from_be_bytes w16 (high ∷ low ∷ []), b) (n, rest) (sym e) in
      subst (λ (q : ℕ × List ℕ). q.0 ≤ length q.1 → one_tlv (flags ∷ kind ∷ high ∷ low ∷ b) ≡ Some (cut_tlv flags kind (high ∷ low ∷ b) q.0 q.1, drop q.0 q.1)) same
      (λ fits. one_tlv-ext high low b is ∙ value_taken flags kind _ (high ∷ low ∷ []) b fits
      ∙ ap (λ (t : TlvValue). Some (t, drop (from_be_bytes w16 (high ∷ low ∷ [])) b)) (cut_whole (high ∷ low ∷ []) b _ fits))
      le
  cut_at true is [] n rest e le = absurd (found_not ℕ (n, rest) (sym e))
  cut_at true is (high ∷ []) n rest e le = absurd (found_not ℕ (n, rest) (sym e))
  cut_at false is (m ∷ b) n rest e le =
      let same = found_same ℕ (m, b) (n, rest) (sym e) in
      subst (λ (q : ℕ × List ℕ). q.0 ≤ length q.1 → one_tlv (flags ∷ kind ∷ m ∷ b) ≡ Some (cut_tlv flags kind (m ∷ b) q.0 q.1, drop q.0 q.1)) same
      (λ fits. one_tlv-short m b is ∙ value_taken flags kind m (m ∷ []) b fits ∙ ap (λ (t : TlvValue). Some (t, drop m b)) (cut_whole (m ∷ []) b m fits))
      le
  cut_at false is [] n rest e le = absurd (found_not ℕ (n, rest) (sym e))

  short_at : (ext : Bool) → is_extended flags ≡ ext → (b : List ℕ) (n : ℕ) (rest : List ℕ) → Some (n, rest) ≡ length_field ext b → length rest < n → one_tlv (flags ∷ kind ∷ b) ≡ None
  short_at true is (high ∷ low ∷ b) n rest e lt =
      let same = found_same ℕ (from_be_bytes w16 (high ∷ low ∷ []), b) (n, rest) (sym e) in
      subst (λ (q : ℕ × List ℕ). length q.1 < q.0 → one_tlv (flags ∷ kind ∷ high ∷ low ∷ b) ≡ None) same
      (λ past. one_tlv-ext high low b is ∙ value_short flags kind _ (high ∷ low ∷ []) b past) lt
  short_at true is [] n rest e lt = absurd (found_not ℕ (n, rest) (sym e))
  short_at true is (high ∷ []) n rest e lt = absurd (found_not ℕ (n, rest) (sym e))
  short_at false is (m ∷ b) n rest e lt =
      let same = found_same ℕ (m, b) (n, rest) (sym e) in
      subst (λ (q : ℕ × List ℕ). length q.1 < q.0 → one_tlv (flags ∷ kind ∷ m ∷ b) ≡ None) same
      (λ past. one_tlv-short m b is ∙ value_short flags kind m (m ∷ []) b past) lt
  short_at false is [] n rest e lt = absurd (found_not ℕ (n, rest) (sym e))

  none_at : (ext : Bool) → is_extended flags ≡ ext → (b : List ℕ) → None ≡ length_field ext b → one_tlv (flags ∷ kind ∷ b) ≡ None
  unfolding one_tlv
  none_at true is [] e = rw is refl
  none_at true is (high ∷ []) e = rw is refl
  none_at true is (high ∷ low ∷ b) e = absurd (found_not ℕ _ e)
  none_at false is [] e = rw is refl
  none_at false is (n ∷ b) e = absurd (found_not ℕ _ e)

  pub tlv_cut : (b : List ℕ) (n : ℕ) (rest : List ℕ) → Some (n, rest) ≡ length_field (is_extended flags) b → n ≤ length rest
      → one_tlv (flags ∷ kind ∷ b) ≡ Some (cut_tlv flags kind b n rest, drop n rest)
  tlv_cut = cut_at (is_extended flags) refl

  pub tlv_short : (b : List ℕ) (n : ℕ) (rest : List ℕ) → Some (n, rest) ≡ length_field (is_extended flags) b → length rest < n → one_tlv (flags ∷ kind ∷ b) ≡ None
  tlv_short = short_at (is_extended flags) refl

  pub tlv_none : (b : List ℕ) → None ≡ length_field (is_extended flags) b → one_tlv (flags ∷ kind ∷ b) ≡ None
  tlv_none = none_at (is_extended flags) refl

  pub tlv_nil : one_tlv [] ≡ None
  unfolding one_tlv
  tlv_nil = refl

  pub tlv_one : one_tlv (flags ∷ []) ≡ None
  unfolding one_tlv
  tlv_one = refl

  two_octets : (n : ℕ) (size : List ℕ) → is_extended flags ≡ true → to_be_bytes w16 n ≡ size → length_octets flags n ≡ size
  two_octets n size is e = ap (λ (t : Bool). cond t (to_be_bytes w16 n) (n ∷ [])) is ∙ e

  -- where the octets are below 256, all of them are spelled by the flags, the type and the value
  spelled_at : (ext : Bool) → is_extended flags ≡ ext → (b : List ℕ) (n : ℕ) (rest : List ℕ) → AreOctets b → Some (n, rest) ≡ length_field ext b → n ≤ length rest
      → (cut_tlv flags kind b n rest).whole ≡ tlv_octets flags kind (take n rest)
  spelled_at true is (high ∷ low ∷ b) n rest octets e le =
      let same = found_same ℕ (from_be_bytes w16 (high ∷ low ∷ []), b) (n, rest) (sym e) in
      subst (λ (q : ℕ × List ℕ). q.0 ≤ length q.1 → (cut_tlv flags kind (high ∷ low ∷ b) q.0 q.1).whole ≡ tlv_octets flags kind (take q.0 q.1)) same
      (λ fits.
      let len : length (take (from_be_bytes w16 (high ∷ low ∷ [])) b) ≡ from_be_bytes w16 (high ∷ low ∷ []) = omega (arith, length-take (from_be_bytes w16 (high ∷ low ∷ [])) b) in
      let field : to_be_bytes w16 (length (take (from_be_bytes w16 (high ∷ low ∷ [])) b)) ≡ high ∷ low ∷ [] = be_bytes_2 (high ∷ low ∷ []) _ refl (AreOctets-take 2 (high ∷ low ∷ b) octets) len in
      whole_cut (flags ∷ kind ∷ high ∷ low ∷ []) b _ fits ∙ ap (λ (s : List ℕ). flags ∷ kind ∷ (s ++ take (from_be_bytes w16 (high ∷ low ∷ [])) b)) (sym (two_octets _ (high ∷ low ∷ []) is field)))
      le
  spelled_at true is [] n rest octets e le = absurd (found_not ℕ (n, rest) (sym e))
  spelled_at true is (high ∷ []) n rest octets e le = absurd (found_not ℕ (n, rest) (sym e))
  spelled_at false is (m ∷ b) n rest octets e le =
      let same = found_same ℕ (m, b) (n, rest) (sym e) in
      subst (λ (q : ℕ × List ℕ). q.0 ≤ length q.1 → (cut_tlv flags kind (m ∷ b) q.0 q.1).whole ≡ tlv_octets flags kind (take q.0 q.1)) same
      (λ fits.
      let len : length (take m b) ≡ m = omega (arith, length-take m b) in
      whole_cut (flags ∷ kind ∷ m ∷ []) b m fits ∙ rw (is, len) refl)
      le
  spelled_at false is [] n rest octets e le = absurd (found_not ℕ (n, rest) (sym e))

  pub tlv_spelled : (b : List ℕ) (n : ℕ) (rest : List ℕ) → AreOctets b → Some (n, rest) ≡ length_field (is_extended flags) b → n ≤ length rest
      → (cut_tlv flags kind b n rest).whole ≡ tlv_octets flags kind (take n rest)
  tlv_spelled = spelled_at (is_extended flags) refl

-- ---- the exits of the code, one lemma each

field_shorter : (ext : Bool) (b : List ℕ) (n : ℕ) (rest : List ℕ) → Some (n, rest) ≡ length_field ext b → length rest ≤ length b
field_shorter true (high ∷ low ∷ b) n rest e =
    let len : length rest ≡ length b = ap (λ (q : ℕ × List ℕ). length q.1) (found_same ℕ (n, rest) (from_be_bytes w16 (high ∷ low ∷ []), b) e) in omega arith
field_shorter true [] n rest e = absurd (found_not ℕ (n, rest) (sym e))
field_shorter true (high ∷ []) n rest e = absurd (found_not ℕ (n, rest) (sym e))
field_shorter false (m ∷ b) n rest e = let len : length rest ≡ length b = ap (λ (q : ℕ × List ℕ). length q.1) (found_same ℕ (n, rest) (m, b) e) in omega arith
field_shorter false [] n rest e = absurd (found_not ℕ (n, rest) (sym e))

-- fewer than three octets begin no attribute
pub none_below_three : (b : List ℕ) → length b < 3 → one_tlv b ≡ None
none_below_three [] lt = tlv_nil 0 0
none_below_three (flags ∷ []) lt = tlv_one flags 0
none_below_three (flags ∷ kind ∷ []) lt = tlv_none flags kind [] (no_octets (is_extended flags))
  where
    no_octets : (ext : Bool) → None ≡ length_field ext []
    no_octets true = refl
    no_octets false = refl
none_below_three (flags ∷ kind ∷ n ∷ b) lt = absurd (omega (arith, lt))

pub three_cut : (b : List ℕ) → 3 ≤ length b → b ≡ get_or b 0 0 ∷ get_or b 1 0 ∷ get_or b 2 0 ∷ take (length b - 3) (drop 3 b)
three_cut (x ∷ y ∷ z ∷ b) le = ap (λ (r : List ℕ). x ∷ y ∷ z ∷ r) (sym (take_all (length (x ∷ y ∷ z ∷ b) - 3) b (omega arith)))
three_cut [] le = absurd (omega arith)
three_cut (x ∷ []) le = absurd (omega arith)
three_cut (x ∷ y ∷ []) le = absurd (omega arith)

module _ (b behind : List ℕ) (flags kind : ℕ) (whole_is : b ≡ flags ∷ kind ∷ behind) where
  pub no_length : None ≡ length_field (is_extended flags) behind → one_tlv b ≡ None
  no_length none = ap one_tlv whole_is ∙ tlv_none flags kind behind none

  module _ (n : ℕ) (field : List ℕ) (some : Some (n, field) ≡ length_field (is_extended flags) behind) where
    pub no_value : length field < n → one_tlv b ≡ None
    no_value lt = ap one_tlv whole_is ∙ tlv_short flags kind behind n field some lt

    module _ (le : n ≤ length field) (value after whole : List ℕ) (value_is : value ≡ take n field) (after_is : after ≡ drop n field)
        (cut : whole ≡ take (length b - length after) b) where
      whole_cut_is : whole ≡ (cut_tlv flags kind behind n field).whole
      whole_cut_is =
          cut ∙ ap (λ (x : List ℕ). take (length b - length x) b) after_is ∙ ap (λ (x : List ℕ). take (length x - length (drop n field)) x) whole_is

      pub is_one_tlv : Some (record { flags = flags; kind = kind; whole = whole; value = value }, after) ≡ one_tlv b
      is_one_tlv =
          ap (λ (w : List ℕ). Some (record { flags = flags; kind = kind; whole = w; value = value }, after)) whole_cut_is
          ∙ ap (λ (v : List ℕ). Some (record { flags = flags; kind = kind; whole = (cut_tlv flags kind behind n field).whole; value = v }, after)) value_is
          ∙ ap (λ (a : List ℕ). Some (cut_tlv flags kind behind n field, a)) after_is
          ∙ sym (ap one_tlv whole_is ∙ tlv_cut flags kind behind n field some le)

      pub is_spelled : AreOctets b → whole ≡ tlv_octets flags kind value
      is_spelled octets =
          whole_cut_is
          ∙ tlv_spelled flags kind behind n field (λ i. subst AreOctets whole_is octets (suc (suc i))) some le
          ∙ ap (tlv_octets flags kind) (sym value_is)

    -- what follows is not longer
    pub after_shorter : (after : List ℕ) → after ≡ drop n field → length after ≤ length b
    after_shorter after after_is = omega (arith, ap length whole_is, ap length after_is, length-drop n field, field_shorter (is_extended flags) behind n field some)
