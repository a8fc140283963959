-- Attributes, numbers, triples and segments are read as they are spelled.
use Rattle.bgp_wire.proofs.Std.{◌≡◌, ℕ, ◌<◌, Bool, true, false, cond, List, [], ◌∷◌, ◌++◌, length, take, drop, Option, Some, None, refl, sym, ap, subst, ◌∙◌, append_assoc, arith, w16, w32, from_be_bytes, take_at, drop_at, take-length}
use Rattle.bgp_wire.specs.Prelude.{Reads, ◌>>=◌, first_octets, behind_count}
use Rattle.std.proofs.lemmas.List.{length-append, drop-drop}
use Rattle.bgp_wire.proofs.Firsts.{both_steps, first_octets-at, first_octets-gives}
use Rattle.bgp_wire.proofs.Pieces.{found_same, found_not}
use Rattle.bgp_wire.proofs.Behinds.{BehindCount-reads}
use Rattle.bgp_attr.specs.declared.path_form.PathForm.{PathForm}
use Rattle.bgp_attr.specs.Prelude.{TlvValue, length_width, number_of_length, IsTlv, one_tlv, number_width, number_in, IsNumber, one_number, IsTriple, one_triple, WireSegment, is_known, IsSegment, segment_of, one_segment}

-- ---- numbers

-- the number of octets that were found
abbrev numbered : Bool → List ℕ × List ℕ → Option (ℕ × List ℕ)
numbered wide octets = Some (number_in wide octets.0, octets.1)

number_finds : (wide : Bool) (n : ℕ) (front back : List ℕ) → IsNumber wide n front → one_number wide (front ++ back) ≡ Some (n, back)
unfolding one_number
number_finds wide n front back p =
    ap (λ (o : Option (List ℕ × List ℕ)). o >>= numbered wide) (first_octets-at (number_width wide) front back p.as_wide) ∙ ap (λ (m : ℕ). Some (m, back)) (sym p.value)

number_gives : (wide : Bool) (b : List ℕ) (n : ℕ) (back : List ℕ) → one_number wide b ≡ Some (n, back) → (front : List ℕ) × (b ≡ front ++ back) × IsNumber wide n front
unfolding one_number
number_gives wide b n back e =
    let cut = both_steps (first_octets (number_width wide) b) (numbered wide) (n, back) e in
    let octets : List ℕ × List ℕ = cut.0 in
    let front = first_octets-gives (number_width wide) b octets.0 octets.1 cut.1 in
    let same = found_same ℕ (number_in wide octets.0, octets.1) (n, back) cut.2 in
    (octets.0, front.octets ∙ ap (λ (p : ℕ × List ℕ). octets.0 ++ p.1) same, record { as_wide = front.long; value = ap (λ (p : ℕ × List ℕ). p.0) (sym same) })

number_some : (wide : Bool) (b : List ℕ) → length b ≡ cond wide 4 2 → 0 < length b
number_some true b e = omega arith
number_some false b e = omega arith

pub IsNumber-reads : (wide : Bool) → Reads (IsNumber wide) (one_number wide)
IsNumber-reads wide = record {
  not_empty = λ n b p. number_some wide b p.as_wide;
  finds = number_finds wide;
  gives = number_gives wide;
}

pub two_first : (x y : ℕ) (rest : List ℕ) → one_number false (x ∷ y ∷ rest) ≡ Some (from_be_bytes w16 (x ∷ y ∷ []), rest)
two_first x y rest = number_finds false (from_be_bytes w16 (x ∷ y ∷ [])) (x ∷ y ∷ []) rest (record { as_wide = refl; value = refl })

pub four_first : (x y z w : ℕ) (rest : List ℕ) → one_number true (x ∷ y ∷ z ∷ w ∷ rest) ≡ Some (from_be_bytes w32 (x ∷ y ∷ z ∷ w ∷ []), rest)
four_first x y z w rest = number_finds true (from_be_bytes w32 (x ∷ y ∷ z ∷ w ∷ [])) (x ∷ y ∷ z ∷ w ∷ []) rest (record { as_wide = refl; value = refl })

-- ---- triples

-- the steps after the first number of a triple
abbrev third : ℕ × List ℕ → ℕ × List ℕ → ℕ × List ℕ → Option (List ℕ × List ℕ)
third x y z = Some (x.0 ∷ y.0 ∷ z.0 ∷ [], z.1)

abbrev second : ℕ × List ℕ → ℕ × List ℕ → Option (List ℕ × List ℕ)
second x y = one_number true y.1 >>= third x y

abbrev first : ℕ × List ℕ → Option (List ℕ × List ℕ)
first x = one_number true x.1 >>= second x

triple_of : (x y z : List ℕ) → length x ≡ 4 → length y ≡ 4 → length z ≡ 4 → IsTriple (from_be_bytes w32 x ∷ from_be_bytes w32 y ∷ from_be_bytes w32 z ∷ []) (x ++ (y ++ z))
triple_of x y z ex ey ez =
    let later : drop 4 (x ++ (y ++ z)) ≡ y ++ z = drop_at x (y ++ z) 4 ex in
    let last : drop 8 (x ++ (y ++ z)) ≡ z = sym (drop-drop 4 4 (x ++ (y ++ z))) ∙ ap (drop 4) later ∙ drop_at y z 4 ey in
    let whole : take 4 z ≡ z = ap (λ (n : ℕ). take n z) (sym ez) ∙ take-length z in
    let one : take 4 (x ++ (y ++ z)) ≡ x = take_at x (y ++ z) 4 ex in
    let two : take 4 (drop 4 (x ++ (y ++ z))) ≡ y = ap (take 4) later ∙ take_at y z 4 ey in
    let three : take 4 (drop 8 (x ++ (y ++ z))) ≡ z = ap (take 4) last ∙ whole in
    record {
      twelve = omega (arith, length-append x (y ++ z), length-append y z);
      numbers = λ t. from_be_bytes w32 (sym one t) ∷ from_be_bytes w32 (sym two t) ∷ from_be_bytes w32 (sym three t) ∷ [];
    }

triple_finds : (t front back : List ℕ) → IsTriple t front → one_triple (front ++ back) ≡ Some (t, back)
unfolding one_triple
triple_finds t (a ∷ b ∷ c ∷ d ∷ e ∷ f ∷ g ∷ h ∷ i ∷ j ∷ k ∷ l ∷ []) back p =
    let x : ℕ × List ℕ = (from_be_bytes w32 (a ∷ b ∷ c ∷ d ∷ []), e ∷ f ∷ g ∷ h ∷ i ∷ j ∷ k ∷ l ∷ back) in
    let y : ℕ × List ℕ = (from_be_bytes w32 (e ∷ f ∷ g ∷ h ∷ []), i ∷ j ∷ k ∷ l ∷ back) in
    ap (λ (o : Option (ℕ × List ℕ)). o >>= first) (four_first a b c d (e ∷ f ∷ g ∷ h ∷ i ∷ j ∷ k ∷ l ∷ back))
    ∙ ap (λ (o : Option (ℕ × List ℕ)). o >>= second x) (four_first e f g h (i ∷ j ∷ k ∷ l ∷ back))
    ∙ ap (λ (o : Option (ℕ × List ℕ)). o >>= third x y) (four_first i j k l back)
    ∙ ap (λ (m : List ℕ). Some (m, back)) (sym p.numbers)
triple_finds t [] back p = absurd (omega (arith, p.twelve))
triple_finds t (a ∷ []) back p = absurd (omega (arith, p.twelve))
triple_finds t (a ∷ b ∷ []) back p = absurd (omega (arith, p.twelve))
triple_finds t (a ∷ b ∷ c ∷ []) back p = absurd (omega (arith, p.twelve))
triple_finds t (a ∷ b ∷ c ∷ d ∷ []) back p = absurd (omega (arith, p.twelve))
triple_finds t (a ∷ b ∷ c ∷ d ∷ e ∷ []) back p = absurd (omega (arith, p.twelve))
triple_finds t (a ∷ b ∷ c ∷ d ∷ e ∷ f ∷ []) back p = absurd (omega (arith, p.twelve))
triple_finds t (a ∷ b ∷ c ∷ d ∷ e ∷ f ∷ g ∷ []) back p = absurd (omega (arith, p.twelve))
triple_finds t (a ∷ b ∷ c ∷ d ∷ e ∷ f ∷ g ∷ h ∷ []) back p = absurd (omega (arith, p.twelve))
triple_finds t (a ∷ b ∷ c ∷ d ∷ e ∷ f ∷ g ∷ h ∷ i ∷ []) back p = absurd (omega (arith, p.twelve))
triple_finds t (a ∷ b ∷ c ∷ d ∷ e ∷ f ∷ g ∷ h ∷ i ∷ j ∷ []) back p = absurd (omega (arith, p.twelve))
triple_finds t (a ∷ b ∷ c ∷ d ∷ e ∷ f ∷ g ∷ h ∷ i ∷ j ∷ k ∷ []) back p = absurd (omega (arith, p.twelve))
triple_finds t (a ∷ b ∷ c ∷ d ∷ e ∷ f ∷ g ∷ h ∷ i ∷ j ∷ k ∷ l ∷ x ∷ front) back p =
    let len : length (a ∷ b ∷ c ∷ d ∷ e ∷ f ∷ g ∷ h ∷ i ∷ j ∷ k ∷ l ∷ x ∷ front) ≡ 12 = p.twelve in absurd (omega arith)

triple_from : (b f g h : List ℕ) (x y z : ℕ × List ℕ) (p : List ℕ × List ℕ) → b ≡ f ++ x.1 → IsNumber true x.0 f → x.1 ≡ g ++ y.1 → IsNumber true y.0 g → y.1 ≡ h ++ z.1 → IsNumber true z.0 h
    → (x.0 ∷ y.0 ∷ z.0 ∷ [], z.1) ≡ p → (front : List ℕ) × (b ≡ front ++ p.1) × IsTriple p.0 front
triple_from b f g h x y z p ex nx ey ny ez nz same =
    let are : from_be_bytes w32 f ∷ from_be_bytes w32 g ∷ from_be_bytes w32 h ∷ [] ≡ p.0 =
    (λ i. sym nx.value i ∷ sym ny.value i ∷ sym nz.value i ∷ []) ∙ ap (λ (q : List ℕ × List ℕ). q.0) same in
    let split : b ≡ (f ++ (g ++ h)) ++ z.1 =
    ex ∙ ap (λ (r : List ℕ). f ++ r) (ey ∙ ap (λ (r : List ℕ). g ++ r) ez ∙ sym (append_assoc g h z.1)) ∙ sym (append_assoc f (g ++ h) z.1) in (
      f ++ (g ++ h),
      split ∙ ap (λ (q : List ℕ × List ℕ). (f ++ (g ++ h)) ++ q.1) same,
      subst (λ (m : List ℕ). IsTriple m (f ++ (g ++ h))) are (triple_of f g h nx.as_wide ny.as_wide nz.as_wide),
    )

triple_gives : (b t back : List ℕ) → one_triple b ≡ Some (t, back) → (front : List ℕ) × (b ≡ front ++ back) × IsTriple t front
unfolding one_triple
triple_gives b t back q =
    let one = both_steps (one_number true b) first (t, back) q in
    let x : ℕ × List ℕ = one.0 in
    let two = both_steps (one_number true x.1) (second x) (t, back) one.2 in
    let y : ℕ × List ℕ = two.0 in
    let three = both_steps (one_number true y.1) (third x y) (t, back) two.2 in
    let z : ℕ × List ℕ = three.0 in
    let f = number_gives true b x.0 x.1 one.1 in
    let g = number_gives true x.1 y.0 y.1 two.1 in
    let h = number_gives true y.1 z.0 z.1 three.1 in
    triple_from b f.0 g.0 h.0 x y z (t, back) f.1 f.2 g.1 g.2 h.1 h.2 (found_same (List ℕ) (x.0 ∷ y.0 ∷ z.0 ∷ [], z.1) (t, back) three.2)

pub IsTriple-reads : Reads IsTriple one_triple
IsTriple-reads = record {
  not_empty = λ t b p. let len : length b ≡ 12 = p.twelve in omega arith;
  finds = triple_finds;
  gives = triple_gives;
}

-- ---- segments

segment_some : (code : ℕ) (numbers back : List ℕ) → 0 < length numbers → segment_of code (Some (numbers, back)) ≡ Some (record { code = code; numbers = numbers }, back)
segment_some code [] back lt = absurd (omega arith)
segment_some code (n ∷ numbers) back lt = refl

segment_finds : (form : PathForm) (s : WireSegment) (front back : List ℕ) → IsSegment form s front → one_segment form (front ++ back) ≡ Some (s, back)
unfolding one_segment
segment_finds form s front back p =
    ap (λ (x : List ℕ). one_segment form (x ++ back)) p.octets
    ∙ rw (p.known, (BehindCount-reads ℕ (IsNumber form.wide) (one_number form.wide) (IsNumber-reads form.wide)).finds s.numbers p.behind back p.counted)
    (segment_some s.code s.numbers back p.some)

from_segment : (code : ℕ) (o : Option (List ℕ × List ℕ)) (s : WireSegment) (back : List ℕ) → segment_of code o ≡ Some (s, back)
    → (o ≡ Some (s.numbers, back)) × (s.code ≡ code) × (0 < length s.numbers)
from_segment code None s back e = absurd (found_not WireSegment (s, back) e)
from_segment code (Some ([], rest)) s back e = absurd (found_not WireSegment (s, back) e)
from_segment code (Some (n ∷ numbers, rest)) s back e =
    let same = found_same WireSegment (record { code = code; numbers = n ∷ numbers }, rest) (s, back) e in
    let row : n ∷ numbers ≡ s.numbers = ap (λ (p : WireSegment × List ℕ). p.0.numbers) same in
    (ap (λ (p : WireSegment × List ℕ). Some (p.0.numbers, p.1)) same, ap (λ (p : WireSegment × List ℕ). p.0.code) (sym same), omega (arith, ap length row))

gives_segment : (form : PathForm) (code : ℕ) (b : List ℕ) (s : WireSegment) (back : List ℕ) (t : Bool) → is_known form code ≡ t
    → cond t (segment_of code (behind_count (one_number form.wide) b)) None ≡ Some (s, back)
    → (front : List ℕ) × (code ∷ b ≡ front ++ back) × IsSegment form s front
gives_segment form code b s back true known e =
    let found = from_segment code (behind_count (one_number form.wide) b) s back e in
    let gave = (BehindCount-reads ℕ (IsNumber form.wide) (one_number form.wide) (IsNumber-reads form.wide)).gives b s.numbers back found.0 in (
      code ∷ gave.0,
      ap (λ (x : List ℕ). code ∷ x) gave.1,
      record { behind = gave.0; octets = ap (λ (n : ℕ). n ∷ gave.0) (sym found.1); known = ap (is_known form) found.1 ∙ known; some = found.2; counted = gave.2 },
    )
gives_segment form code b s back false known e = absurd (found_not WireSegment (s, back) e)

segment_gives : (form : PathForm) (b : List ℕ) (s : WireSegment) (back : List ℕ) → one_segment form b ≡ Some (s, back)
    → (front : List ℕ) × (b ≡ front ++ back) × IsSegment form s front
unfolding one_segment
segment_gives form [] s back e = absurd (found_not WireSegment (s, back) e)
segment_gives form (code ∷ b) s back e = gives_segment form code b s back (is_known form code) refl e

cons_some : (b : List ℕ) (x : ℕ) (later : List ℕ) → b ≡ x ∷ later → 0 < length b
cons_some b x later e = omega (arith, ap length e)

pub IsSegment-reads : (form : PathForm) → Reads (IsSegment form) (one_segment form)
IsSegment-reads form = record {
  not_empty = λ s b p. cons_some b s.code p.behind p.octets;
  finds = segment_finds form;
  gives = segment_gives form;
}

-- ---- attributes

abbrev pub tlv_with : ℕ → ℕ → List ℕ → List ℕ → TlvValue
tlv_with flags kind size value = record { flags = flags; kind = kind; whole = flags ∷ kind ∷ (size ++ value); value = value }

-- the attribute with the value that was found
abbrev pub with_value : ℕ → ℕ → List ℕ → List ℕ × List ℕ → Option (TlvValue × List ℕ)
with_value flags kind size value = Some (tlv_with flags kind size value.0, value.1)

-- the attribute after its length
abbrev pub behind_size : ℕ → ℕ → List ℕ × List ℕ → Option (TlvValue × List ℕ)
behind_size flags kind size = first_octets (number_of_length size.0) size.1 >>= with_value flags kind size.0

finds_tlv : (flags kind : ℕ) (size value back : List ℕ) → length size ≡ length_width flags → length value ≡ number_of_length size
    → one_tlv (flags ∷ kind ∷ (size ++ value) ++ back) ≡ Some (tlv_with flags kind size value, back)
unfolding one_tlv
finds_tlv flags kind size value back wide counted =
    ap (λ (b : List ℕ). first_octets (length_width flags) b >>= behind_size flags kind) (append_assoc size value back)
    ∙ ap (λ (o : Option (List ℕ × List ℕ)). o >>= behind_size flags kind) (first_octets-at (length_width flags) size (value ++ back) wide)
    ∙ ap (λ (o : Option (List ℕ × List ℕ)). o >>= with_value flags kind size) (first_octets-at (number_of_length size) value back counted)

tlv_finds : (t : TlvValue) (front back : List ℕ) → IsTlv t front → one_tlv (front ++ back) ≡ Some (t, back)
tlv_finds t front back p =
    let same : tlv_with t.flags t.kind p.size t.value ≡ t = ap (λ (w : List ℕ). record { flags = t.flags; kind = t.kind; whole = w; value = t.value }) (sym (p.whole ∙ p.octets)) in
    ap (λ (x : List ℕ). one_tlv (x ++ back)) p.octets
    ∙ finds_tlv t.flags t.kind p.size t.value back p.wide p.counted
    ∙ ap (λ (u : TlvValue). Some (u, back)) same

tlv_gives : (b : List ℕ) (t : TlvValue) (back : List ℕ) → one_tlv b ≡ Some (t, back) → (front : List ℕ) × (b ≡ front ++ back) × IsTlv t front
unfolding one_tlv
tlv_gives [] t back e = absurd (found_not TlvValue (t, back) e)
tlv_gives (flags ∷ []) t back e = absurd (found_not TlvValue (t, back) e)
tlv_gives (flags ∷ kind ∷ b) t back e =
    let first = both_steps (first_octets (length_width flags) b) (behind_size flags kind) (t, back) e in
    let size : List ℕ × List ℕ = first.0 in
    let second = both_steps (first_octets (number_of_length size.0) size.1) (with_value flags kind size.0) (t, back) first.2 in
    let value : List ℕ × List ℕ = second.0 in
    let front = first_octets-gives (length_width flags) b size.0 size.1 first.1 in
    let later = first_octets-gives (number_of_length size.0) size.1 value.0 value.1 second.1 in
    let same = found_same TlvValue (tlv_with flags kind size.0 value.0, value.1) (t, back) second.2 in
    let split : b ≡ (size.0 ++ value.0) ++ value.1 = front.octets ∙ ap (λ (x : List ℕ). size.0 ++ x) later.octets ∙ sym (append_assoc size.0 value.0 value.1) in
    subst (λ (q : TlvValue × List ℕ). (front : List ℕ) × (flags ∷ kind ∷ b ≡ front ++ q.1) × IsTlv q.0 front) same (
      flags ∷ kind ∷ (size.0 ++ value.0),
      ap (λ (x : List ℕ). flags ∷ kind ∷ x) split,
      record { size = size.0; octets = refl; wide = front.long; counted = later.long; whole = refl },
    )

pub IsTlv-reads : Reads IsTlv one_tlv
IsTlv-reads = record {
  not_empty = λ t b p. cons_some b t.flags (t.kind ∷ (p.size ++ t.value)) p.octets;
  finds = tlv_finds;
  gives = tlv_gives;
}
