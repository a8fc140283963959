-- A message is split into fields, one at a time.
use Rattle.bgp_fields.proofs.Prelude.{◌≡◌, ℕ, zero, suc, ◌+◌, ◌<◌, ◌≤◌, ◌&&◌, nat_lt, nat_le, cond, List, [], ◌∷◌, ◌++◌, length, take, drop, Option, None}
use Rattle.bgp_fields.proofs.Prelude.{refl, sym, ap, ap₂, subst, ◌∙◌, arith, length-drop, length-take-le, and_parts, leb-true, ltb-true, le-leb, cond_both}
use Rattle.bgp_fields.proofs.Prelude.{drop-drop, lt-ltb, Field, Group, Unread, Plan, fit, group_from, Telling, told, walk_within, walk}

module _ (I S : Type 0) where
  -- a plan that fits n octets has at least one of them, and no more than n
  abbrev pub Fits : ℕ → Plan I S → Type 0
  Fits n p = (0 < p.len) × (p.len + p.inner_len ≤ n)

  pub fit-fits : (stuck : S) (p : Plan I S) (n : ℕ) → 0 < n → Fits n (fit stuck p n)
  fit-fits stuck p n some =
      cond_both (nat_lt 0 p.len && nat_le p.len n)
      (cond (nat_le (p.len + p.inner_len) n) p (record p { inner_len = 0; next = stuck }))
      (record p { kind = Unread; len = n; begins = None; inner_len = 0; next = stuck })
      (Fits n)
      (λ both. let parts = and_parts (nat_lt 0 p.len) (nat_le p.len n) both in
      let more = ltb-true 0 p.len parts.0 in
      let short = leb-true p.len n parts.1 in
      cond_both (nat_le (p.len + p.inner_len) n) p (record p { inner_len = 0; next = stuck }) (Fits n)
      (λ room. (more, leb-true (p.len + p.inner_len) n room))
      (λ no. (more, omega arith)))
      (λ no. (some, omega arith))

  -- a plan that fits doesn't change
  pub fit-same : (stuck : S) (p : Plan I S) (n : ℕ) → Fits n p → fit stuck p n ≡ p
  fit-same stuck p n fits =
      rw (lt-ltb 0 p.len fits.0) (rw (le-leb p.len n (omega (arith, fits.1))) (rw (le-leb (p.len + p.inner_len) n fits.1) refl))

module _ (I S : Type 0) (stuck : S) (plan : S → List ℕ → Plan I S) (inside : I → Telling) where
  -- what is left after the octets of a field
  pub shorter : (p : Plan I S) (b : List ℕ) (n : ℕ) → Fits I S (length b) p → length b ≤ suc n → length (drop (p.len + p.inner_len) b) ≤ n
  shorter p b n fits le = omega (arith, length-drop (p.len + p.inner_len) b, fits.0, fits.1)

  -- where later fields are the same, all are
  pub told-same : (later other : S → Telling) (p : Plan I S) (at : ℕ) (group : Option Group) (b : List ℕ)
      → ((next : S) (at : ℕ) (group : Option Group) → later next at group (drop (p.len + p.inner_len) b) ≡ other next at group (drop (p.len + p.inner_len) b))
      → told inside later p at group b ≡ told inside other p at group b
  told-same later other p at group b same =
      ap (λ (fs : List Field). record { at = at; len = p.len; kind = p.kind; group = group_from at p.begins group }
      ∷ (inside p.inner (at + p.len) (group_from at p.begins group) (take p.inner_len (drop p.len b)) ++ fs))
      (same p.next (at + p.len + p.inner_len) (group_from at p.begins group))

  -- more turns than octets find nothing more
  pub walk_more : (n m : ℕ) (part : S) (at : ℕ) (group : Option Group) (b : List ℕ) → length b ≤ n → length b ≤ m
      → walk_within n stuck plan inside part at group b ≡ walk_within m stuck plan inside part at group b
  walk_more zero zero part at group b le_n le_m = refl
  walk_more zero (suc m) part at group [] le_n le_m = refl
  walk_more zero (suc m) part at group (x ∷ b) le_n le_m = absurd (omega arith)
  walk_more (suc n) zero part at group [] le_n le_m = refl
  walk_more (suc n) zero part at group (x ∷ b) le_n le_m = absurd (omega arith)
  walk_more (suc n) (suc m) part at group [] le_n le_m = refl
  walk_more (suc n) (suc m) part at group (x ∷ b) le_n le_m =
      let p = fit stuck (plan part (x ∷ b)) (length (x ∷ b)) in
      let fits = fit-fits I S stuck (plan part (x ∷ b)) (length (x ∷ b)) (omega arith) in
      told-same (walk_within n stuck plan inside) (walk_within m stuck plan inside) p at group (x ∷ b)
      (λ next at group. walk_more n m next at group (drop (p.len + p.inner_len) (x ∷ b)) (shorter p (x ∷ b) n fits le_n) (shorter p (x ∷ b) m fits le_m))

  -- no octets have no fields
  pub walk-none : (part : S) (at : ℕ) (group : Option Group) → walk stuck plan inside part at group [] ≡ []
  unfolding walk
  walk-none part at group = refl

  -- one step
  pub walk-step : (part : S) (at : ℕ) (group : Option Group) (x : ℕ) (b : List ℕ)
      → walk stuck plan inside part at group (x ∷ b)
      ≡ told inside (walk stuck plan inside) (fit stuck (plan part (x ∷ b)) (length (x ∷ b))) at group (x ∷ b)
  unfolding walk
  walk-step part at group x b =
      let p = fit stuck (plan part (x ∷ b)) (length (x ∷ b)) in
      let fits = fit-fits I S stuck (plan part (x ∷ b)) (length (x ∷ b)) (omega arith) in
      told-same (walk_within (length b) stuck plan inside) (walk stuck plan inside) p at group (x ∷ b)
      (λ next at group. walk_more (length b) (length (drop (p.len + p.inner_len) (x ∷ b))) next at group (drop (p.len + p.inner_len) (x ∷ b))
      (shorter p (x ∷ b) (length b) fits (omega arith)) (omega arith))

  -- the same, for the plan of the octets
  pub walk-told : (part : S) (at : ℕ) (group : Option Group) (b : List ℕ) (p : Plan I S) → 0 < length b → p ≡ fit stuck (plan part b) (length b)
      → walk stuck plan inside part at group b ≡ told inside (walk stuck plan inside) p at group b
  walk-told part at group [] p some e = absurd (omega arith)
  walk-told part at group (x ∷ b) p some e =
      walk-step part at group x b ∙ ap (λ (q : Plan I S). told inside (walk stuck plan inside) q at group (x ∷ b)) (sym e)

  -- octets have at least one field
  pub walk-some : (part : S) (at : ℕ) (group : Option Group) (b : List ℕ) → 0 < length b → 0 < length (walk stuck plan inside part at group b)
  walk-some part at group b some = omega (arith, ap length (walk-told part at group b (fit stuck (plan part b) (length b)) some refl))

  -- a step, by the octets that were split off
  pub walk-split : (part : S) (at : ℕ) (group g : Option Group) (b inner rest : List ℕ) (p : Plan I S)
      → 0 < length b → p ≡ fit stuck (plan part b) (length b) → g ≡ group_from at p.begins group
      → inner ≡ take p.inner_len (drop p.len b) → rest ≡ drop p.inner_len (drop p.len b)
      → walk stuck plan inside part at group b
      ≡ record { at = at; len = p.len; kind = p.kind; group = g }
      ∷ (inside p.inner (at + p.len) g inner ++ walk stuck plan inside p.next (at + p.len + p.inner_len) g rest)
  walk-split part at group g b inner rest p some e group_is inner_is rest_is =
      walk-told part at group b p some e
      ∙ ap₂ (λ (x : Option Group) (c : List ℕ). record { at = at; len = p.len; kind = p.kind; group = x }
      ∷ (inside p.inner (at + p.len) x (take p.inner_len (drop p.len b)) ++ walk stuck plan inside p.next (at + p.len + p.inner_len) x c))
      (sym group_is) (sym (drop-drop p.inner_len p.len b) ∙ sym rest_is)
      ∙ ap (λ (c : List ℕ). record { at = at; len = p.len; kind = p.kind; group = g }
      ∷ (inside p.inner (at + p.len) g c ++ walk stuck plan inside p.next (at + p.len + p.inner_len) g rest)) (sym inner_is)

  pub fits-told : (part : S) (b : List ℕ) (p : Plan I S) → 0 < length b → p ≡ fit stuck (plan part b) (length b) → Fits I S (length b) p
  fits-told part b p some e = subst (Fits I S (length b)) (sym e) (fit-fits I S stuck (plan part b) (length b) some)

  -- the lengths of the octets that were split off
  pub record Lengths (b inner rest : List ℕ) (p : Plan I S) : Type 0 where
    pub some : 0 < p.len
    pub inner_len : length inner ≡ p.inner_len
    pub whole : p.len + p.inner_len + length rest ≡ length b

  pub lengths : (part : S) (b inner rest : List ℕ) (p : Plan I S) → 0 < length b → p ≡ fit stuck (plan part b) (length b)
      → inner ≡ take p.inner_len (drop p.len b) → rest ≡ drop p.inner_len (drop p.len b) → Lengths b inner rest p
  lengths part b inner rest p some e inner_is rest_is =
      let fits = fits-told part b p some e in
      let behind = length-drop p.len b in
      record {
        some = fits.0;
        inner_len = ap length inner_is ∙ length-take-le p.inner_len (drop p.len b) (omega (arith, behind, fits.1));
        whole = omega (arith, ap length rest_is, length-drop p.inner_len (drop p.len b), behind, fits.1);
      }
