-- Frames and their headers: what is whole, what is faulty, and how much is wanted.
use Rattle.bgp_wire.proofs.Std.{◌≡◌, ℕ, zero, suc, ◌+◌, ◌-◌, ◌<◌, ◌≤◌, ◌^◌, List, [], ◌∷◌, ◌++◌, length, take, drop, get_or, replicate, ◌↔◌, Result, Ok, Err, refl, sym, ap, subst, ◌∙◌, arith, inl, inr, w16, to_be_bytes, cases_lt, cases_order, le-ltb, length-replicate, take-append-le, take-append-drop, get_or_append_left, drop_more, be_bytes_2, from_be_bytes-to_be_bytes_2}
use Rattle.std.proofs.lemmas.Bool.{lt-ltb}
use Rattle.std.proofs.lemmas.List.{length-append, length-drop}
use Rattle.bgp_wire.specs.Prelude.{AreOctets}
use Rattle.bgp_wire.proofs.OctetLemmas.{AreOctets-append}
use Rattle.bgp_frame.specs.declared.fault.HeadFault.{HeadFault}
use Rattle.bgp_frame.specs.Prelude.{AreTypes, HeaderIn, IsFrameIn, IsLengthIn, IsWholeIn, MessageIn, StopsIn, TakesIn, Types, head_of_in, header_in, length_field, marker, octets_of_in, type_field, wanted_by, wanted_in}
use Rattle.bgp_frame.proofs.Headers.{below_limit, length-header}
use Rattle.bgp_frame.proofs.HeadLemmas.{Says-head_of, head_of-Says, above_18}

module _ {K : Type 0} (ty : Types K) (okay : AreTypes ty) where
  -- ---- the first 19 octets decide

  abbrev pub head_at : K → ℕ → (HeaderIn K)
  head_at kind len = record { kind = kind; len = len }

  pub head_of-append : (a b : List ℕ) → 19 ≤ length a → head_of_in ty (a ++ b) ≡ head_of_in ty a
  unfolding head_of_in
  head_of-append a b long =
      rw (take-append-le 16 a b (omega arith), get_or_append_left a b 0 16 (omega arith), get_or_append_left a b 0 17 (omega arith), get_or_append_left a b 0 18 (omega arith)) refl

  -- ---- a frame's header

  pub length-octets_of : (m : MessageIn K) → length (octets_of_in ty m) ≡ 19 + length m.body
  length-octets_of m = length-append (header_in ty m.kind (19 + length m.body)) m.body ∙ ap (λ (n : ℕ). n + length m.body) (length-header ty okay m.kind (19 + length m.body))

  pub length-IsFrame : (m : MessageIn K) (b : List ℕ) → IsFrameIn ty m b → length b ≡ 19 + length m.body
  length-IsFrame m b f = ap length f.octets ∙ length-octets_of m

  pub head_of-IsFrame : (m : MessageIn K) (b : List ℕ) → IsFrameIn ty m b → head_of_in ty b ≡ Ok (head_at m.kind (length b))
  head_of-IsFrame m b f =
      let len = length-IsFrame m b f in
      let below : 19 + length m.body < 2 ^ 16 = let small = okay.small in omega (arith, below_limit ty okay m.kind (length b) f.allowed) in
      (head_of-Says ty okay) b (head_at m.kind (length b)) (record {
        marked = ap (take 16) f.octets;
        len_is = ap length_field f.octets ∙ from_be_bytes-to_be_bytes_2 (19 + length m.body) below ∙ sym len;
        type_is = ap type_field f.octets;
        fits = f.allowed;
      })

  -- nineteen octets and what follows them
  parts : (b : List ℕ) → 19 ≤ length b → b ≡ take 16 b ++ (get_or b 16 0 ∷ get_or b 17 0 ∷ get_or b 18 0 ∷ drop 19 b)
  parts b long =
      sym (take-append-drop 16 b)
      ∙ ap (λ (x : List ℕ). take 16 b ++ x) (drop_more b 16 0 (omega arith) ∙ ap (λ (x : List ℕ). get_or b 16 0 ∷ x) (drop_more b 17 0 (omega arith) ∙ ap (λ (x : List ℕ). get_or b 17 0 ∷ x) (drop_more b 18 0 (omega arith))))

  pub IsFrame-head_of : (b : List ℕ) (h : HeaderIn K) → AreOctets b → head_of_in ty b ≡ Ok h → length b ≡ h.len → IsFrameIn ty (record { kind = h.kind; body = drop 19 b }) b
  IsFrame-head_of b h octets e len =
      let s = Says-head_of ty okay b h e in
      let long : 19 ≤ length b = omega (arith, above_18 ty okay h.kind h.len s.fits) in
      let body_len : 19 + length (drop 19 b) ≡ length b = omega (arith, length-drop 19 b) in
      let two : List ℕ = get_or b 16 0 ∷ get_or b 17 0 ∷ [] in
      let two_octets : (i : ℕ) → get_or two i 0 < 256 = λ i. pair_octets (get_or b 16 0) (get_or b 17 0) (octets 16) (octets 17) i in
      let field : to_be_bytes w16 (19 + length (drop 19 b)) ≡ two = be_bytes_2 two (19 + length (drop 19 b)) refl two_octets (body_len ∙ len ∙ sym s.len_is) in
      record {
        octets =
            parts b long
            ∙ ap (λ (x : List ℕ). x ++ (two ++ (get_or b 18 0 ∷ drop 19 b))) s.marked
            ∙ ap (λ (n : ℕ). marker ++ (two ++ (n ∷ drop 19 b))) s.type_is
            ∙ ap (λ (x : List ℕ). marker ++ (x ++ (ty.code_of h.kind ∷ drop 19 b))) (sym field);
        allowed = subst (λ (n : ℕ). IsLengthIn ty h.kind n) (sym len) s.fits;
      }
    where
      pair_octets : (x y : ℕ) → x < 256 → y < 256 → (i : ℕ) → get_or (x ∷ y ∷ []) i 0 < 256
      pair_octets x y p q zero = p
      pair_octets x y p q (suc zero) = q
      pair_octets x y p q (suc (suc i)) = omega arith

  -- ---- what is wanted

  pub wanted_under : (b : List ℕ) → length b < 19 → wanted_in ty b ≡ 19
  unfolding wanted_in
  wanted_under b short = rw (lt-ltb _ _ short) refl

  pub wanted_by_head : (b : List ℕ) → 19 ≤ length b → wanted_in ty b ≡ wanted_by (head_of_in ty b)
  unfolding wanted_in
  wanted_by_head b long = rw (le-ltb _ _ long) refl

  wanted_by_bounds : (r : Result (HeaderIn K) HeadFault) → ((h : HeaderIn K) → r ≡ Ok h → IsLengthIn ty h.kind h.len) → (19 ≤ wanted_by r) × (wanted_by r ≤ ty.limit)
  wanted_by_bounds (Ok h) fits = let f = fits h refl in (above_18 ty okay h.kind h.len f, below_limit ty okay h.kind h.len f)
  wanted_by_bounds (Err f) fits = (omega arith, okay.room)

  -- at least a header is wanted, and at most ty.limit octets
  pub wanted-bounds : (b : List ℕ) → (19 ≤ wanted_in ty b) × (wanted_in ty b ≤ ty.limit)
  wanted-bounds b =
      elim (cases_lt (length b) 19) [
        | inl short ↦ let e = wanted_under b short in let room = okay.room in (omega arith, omega arith)
        | inr long ↦
            let e = wanted_by_head b long in
            let bounds = wanted_by_bounds (head_of_in ty b) (λ h is. (Says-head_of ty okay b h is).fits) in
            (omega (arith, bounds.0), omega (arith, bounds.1))
      ]

  -- once the header is there, more octets don't change what is wanted
  pub wanted-append : (a b : List ℕ) → 19 ≤ length a → wanted_in ty (a ++ b) ≡ wanted_in ty a
  wanted-append a b long =
      wanted_by_head (a ++ b) (omega (arith, length-append a b)) ∙ ap wanted_by (head_of-append a b long) ∙ sym (wanted_by_head a long)

  -- ---- what stops is as long as is wanted

  pub IsFrame-wanted : (m : MessageIn K) (b : List ℕ) → IsFrameIn ty m b → wanted_in ty b ≡ length b
  IsFrame-wanted m b f =
      let long : 19 ≤ length b = omega (arith, length-IsFrame m b f) in
      wanted_by_head b long ∙ ap wanted_by (head_of-IsFrame m b f)

  pub Stops-wanted : (b : List ℕ) → StopsIn ty b → (19 ≤ length b) × (wanted_in ty b ≡ length b)
  Stops-wanted b (inl w) = (omega (arith, length-IsFrame w.0 b w.1), IsFrame-wanted w.0 b w.1)
  Stops-wanted b (inr f) =
      let e = wanted_by_head b (omega (arith, f.0)) ∙ ap wanted_by f.1.1 in
      (omega (arith, f.0), e ∙ sym f.0)

  stops_by : (b : List ℕ) → AreOctets b → (r : Result (HeaderIn K) HeadFault) → head_of_in ty b ≡ r → length b ≡ wanted_by r → StopsIn ty b
  stops_by b octets (Ok h) e len = inl (record { kind = h.kind; body = drop 19 b }, IsFrame-head_of b h octets e len)
  stops_by b octets (Err f) e len = inr (len, (f, e))

  pub wanted-Stops : (b : List ℕ) → AreOctets b → 19 ≤ length b → length b ≡ wanted_in ty b → StopsIn ty b
  wanted-Stops b octets long len = stops_by b octets (head_of_in ty b) refl (len ∙ wanted_by_head b long)

  -- ---- a header begins a message exactly where it has no fault

  header_begins : (b : List ℕ) (h : HeaderIn K) → length b ≡ 19 → AreOctets b → head_of_in ty b ≡ Ok h → (rest : List ℕ) × IsWholeIn ty (b ++ rest)
  header_begins b h len octets e =
      let s = Says-head_of ty okay b h e in
      let least = above_18 ty okay h.kind h.len s.fits in
      let rest : List ℕ = replicate (h.len - 19) 0 in
      let whole : List ℕ = b ++ rest in
      let zeros : AreOctets rest = λ i. zero_octets (h.len - 19) i in
      let count : length whole ≡ h.len = omega (arith, length-append b rest, length-replicate {A = ℕ} (h.len - 19) 0) in
      let says : head_of_in ty whole ≡ Ok h = head_of-append b rest (omega arith) ∙ e in
      (rest, (record { kind = h.kind; body = drop 19 whole }, IsFrame-head_of whole h (AreOctets-append b rest octets zeros) says count))
    where
      zero_octets : (n i : ℕ) → get_or (replicate n 0) i 0 < 256
      zero_octets zero i = omega arith
      zero_octets (suc n) zero = omega arith
      zero_octets (suc n) (suc i) = zero_octets n i

  whole_begins : (h rest : List ℕ) → length h ≡ 19 → IsWholeIn ty (h ++ rest) → (said : HeaderIn K) × (head_of_in ty h ≡ Ok said)
  whole_begins h rest len w = (head_at w.0.kind (length (h ++ rest)), sym (head_of-append h rest (omega arith)) ∙ head_of-IsFrame w.0 (h ++ rest) w.1)

  pub header_iff : (h : List ℕ) → length h ≡ 19 → AreOctets h → ((said : HeaderIn K) × (head_of_in ty h ≡ Ok said)) ↔ ((rest : List ℕ) × IsWholeIn ty (h ++ rest))
  header_iff h len octets = (λ says. header_begins h says.0 len octets says.1, λ w. whole_begins h w.0 len w.1)

  -- ---- the count is unique

  not_sooner : (held piece : List ℕ) (n m : ℕ) → TakesIn ty held piece n → TakesIn ty held piece m → n < m → ⊥
  not_sooner held piece n m p q lt =
      elim p.all_or_stops [
        | inl all ↦ omega (arith, q.within)
        | inr stops ↦ q.no_sooner n lt stops
      ]

  pub one_count : (held piece : List ℕ) (n m : ℕ) → TakesIn ty held piece n → TakesIn ty held piece m → n ≡ m
  one_count held piece n m p q =
      elim (cases_order n m) [
        | inl same ↦ same
        | inr order ↦ elim order [
          | inl lt ↦ absurd (not_sooner held piece n m p q lt)
          | inr gt ↦ absurd (not_sooner held piece m n q p gt)
        ]
      ]
