-- Where the attributes of a field lie in it, and in a message.
use Rattle.ristulva_c.proofs.Below.{◌≡◌, ℕ, ◌+◌, ◌-◌, ◌≤◌, Bool, true, false, cond, List, [], ◌∷◌, ◌++◌, length, take, drop, Some, None, append_assoc, refl, sym, ap, ◌∙◌, arith, find, drop_at, take_at, drop-take, take-take, length-append, drop-drop, Row, TlvValue, PlacedTlv, IsTlv, one_tlv, tlvs_of, placed_from, placed_tlvs, Splits-pieces, IsTlv-reads}

-- an attribute's value is at its offset in octets, after its header
pub record LiesAt (b : List ℕ) (p : PlacedTlv) : Type 0 where
  pub longer : length p.tlv.value ≤ length p.tlv.whole
  pub within : p.at + length p.tlv.whole ≤ length b
  pub value : take (length p.tlv.value) (drop (p.at + (length p.tlv.whole - length p.tlv.value)) b) ≡ p.tlv.value

-- an attribute at this offset of octets
one_lies : (b post front : List ℕ) (at : ℕ) (t : TlvValue) → IsTlv t front → drop at b ≡ front ++ post → at + length (front ++ post) ≤ length b → LiesAt b (record { at = at; tlv = t })
one_lies b post front at t is there room =
    let head : List ℕ = t.flags ∷ t.kind ∷ is.size in
    let whole : front ≡ head ++ t.value = is.octets in
    let long : length t.whole ≡ length head + length t.value = ap length (is.whole ∙ whole) ∙ length-append head t.value in
    let n : ℕ = length t.whole - length t.value in
    let place : length head ≡ n = omega (arith, long) in
    let spread : drop at b ≡ head ++ (t.value ++ post) = there ∙ ap (λ (x : List ℕ). x ++ post) whole ∙ append_assoc head t.value post in
    let behind : drop (at + n) b ≡ t.value ++ post =
    ap (λ (k : ℕ). drop (at + k) b) (sym place) ∙ sym (drop-drop (length head) at b) ∙ ap (drop (length head)) spread ∙ drop_at head (t.value ++ post) (length head) refl in
    record {
      longer = omega (arith, long);
      within = omega (arith, room, ap length is.whole, length-append front post);
      value = ap (take (length t.value)) behind ∙ take_at t.value post (length t.value) refl;
    }

module _ (test : PlacedTlv → Bool) (b : List ℕ) where
  lies_by : (t : TlvValue) (ts : List TlvValue) (front back post : List ℕ) (at : ℕ) (h : Bool) → IsTlv t front → drop at b ≡ front ++ (back ++ post) → at + length (front ++ (back ++ post)) ≤ length b
      → (q : PlacedTlv) → cond h (Some (record { at = at; tlv = t })) (find test (placed_from (at + length t.whole) ts)) ≡ Some q
      → (drop (at + length t.whole) b ≡ back ++ post → at + length t.whole + length (back ++ post) ≤ length b → find test (placed_from (at + length t.whole) ts) ≡ Some q → LiesAt b q) → LiesAt b q
  lies_by t ts front back post at true is there room q found later =
      let same : record { at = at; tlv = t } ≡ q = cc in
      subst_lies same (one_lies b (back ++ post) front at t is there room)
    where
      subst_lies : {x y : PlacedTlv} → x ≡ y → LiesAt b x → LiesAt b y
      subst_lies e l = rw (sym e) l
  lies_by t ts front back post at false is there room q found later =
      let long : length t.whole ≡ length front = ap length is.whole in
      later (ap (λ (k : ℕ). drop (at + k) b) long ∙ sym (drop-drop (length front) at b) ∙ ap (drop (length front)) there ∙ drop_at front (back ++ post) (length front) refl)
      (omega (arith, room, long, length-append front (back ++ post))) found

  lies_in : (ts : List TlvValue) (row post : List ℕ) (at : ℕ) → Row IsTlv ts row → drop at b ≡ row ++ post → at + length (row ++ post) ≤ length b → (q : PlacedTlv) → find test (placed_from at ts) ≡ Some q → LiesAt b q
  lies_in [] row post at spelled there room q found = absurd (let bad : None ≡ Some q = found in cc)
  lies_in (t ∷ ts) row post at spelled there room q found =
      let apart : row ++ post ≡ spelled.0 ++ (spelled.1 ++ post) = ap (λ (x : List ℕ). x ++ post) spelled.2 ∙ append_assoc spelled.0 spelled.1 post in
      lies_by t ts spelled.0 spelled.1 post at (test (record { at = at; tlv = t })) spelled.3 (there ∙ apart) (omega (arith, room, ap length apart)) q found
      (λ behind more f. lies_in ts spelled.1 post (at + length t.whole) spelled.4 behind more q f)

-- the attribute that is found lies in the field
pub found_lies : (test : PlacedTlv → Bool) (field : List ℕ) (q : PlacedTlv) → find test (placed_tlvs field) ≡ Some q → LiesAt field q
found_lies test field q found =
    let s = Splits-pieces TlvValue IsTlv one_tlv IsTlv-reads field in
    lies_in test field (tlvs_of field).0 s.row (tlvs_of field).1 0 s.spelled s.whole (omega (arith, ap length s.whole)) q found

-- what lies in a part of octets, by its offset in them
pub in_part : (b : List ℕ) (at n head len : ℕ) → head + len ≤ n → take len (drop (at + head) b) ≡ take len (drop head (take n (drop at b)))
in_part b at n head len fits =
    sym (
    ap (λ (k : ℕ). take len (drop head (take k (drop at b)))) (let e : n ≡ head + (n - head) = omega (arith, fits) in e)
    ∙ ap (take len) (drop-take head (n - head) (drop at b))
    ∙ take-take len (n - head) (drop head (drop at b)) (omega (arith, fits))
    ∙ ap (take len) (drop-drop head at b)
    )
