-- The messages that announce the routes of one field of an UPDATE: each can be written where the UPDATE can, and is no longer.
use Rattle.bgp_clean.proofs.Prelude.{◌≡◌, ℕ, zero, suc, ◌+◌, ◌≤◌, Bool, true, false, not, ◌&&◌, ◌||◌, cond, eqb, ltb, List, [], ◌∷◌, ◌++◌, length, Option, Some, None, refl, sym, ap, ap₂}
use Rattle.bgp_clean.proofs.Prelude.{subst, ◌∙◌, arith, flat_map, filter, list_any, AllByRecursion, and_right, or_from, or_parts, false≢true, flat_map-append, eqb-true, length-append, MP_REACH_NLRI, MP_UNREACH_NLRI}
use Rattle.bgp_clean.proofs.Prelude.{Context, PrefixValue, IsValid, Attr, MpReach, MpUnreach, canonical, run_octets, is_too_wide, is_as4, is_empty, has_as_zero, stands_twice, HasRanges, IPV4, Attrs, Update}
use Rattle.bgp_clean.proofs.Prelude.{CanBeWritten, reached_ip4, has_routes, announces, present, slot, canonical_order, attr_list, types_from, carries_routes, attributes_octets, written_body, is_out_of_place, any_attr, HasUpdateRanges}
use Rattle.bgp_clean.proofs.Prelude.{inl, inr, ◌⊎◌, field-all, short-writable, none-long, length-body, all-none, none-all, all-carried, IsAccepted, accepted-valid, valid-accepted, nlri_part, reached_part, hop_part, reach_left}
use Rattle.std.proofs.lemmas.Bool.{lt-ltb}
use Rattle.std.specs.Prelude.{is_none, is_some}
use Rattle.bgp_numbers.specs.declared.attribute.TheConstants.{NEXT_HOP}
use Rattle.bgp_update.specs.Written.{has_nlri}
use Rattle.bgp_attr.specs.Prelude.{IsAddress}
use Rattle.bgp_attr.proofs.CanonicalLength.{reach_added}
use Rattle.bgp_clean.proofs.HeldAttributes.{reach-all}
use Rattle.bgp_clean.proofs.PartSlots.{slot-apart, slot-hop, slot-reach, slot-unreach}
use Rattle.bgp_clean.proofs.Withdrawals.{run, size, size-one, gone-can, nlri-can, reached-can}
use Rattle.bgp_clean.specs.declared.part.Part.{Part}
use Rattle.bgp_clean.specs.steps.Parts.{part_update, PartsCanBePut}

abbrev hop_list : Option (List ℕ) → List Attr
hop_list h = present (λ (a : List ℕ). Attr.NextHop a) h

abbrev reach_list : Option MpReach → List Attr
reach_list r = present (λ (m : MpReach). Attr.MpReach m) r

-- ---- all attributes but those of routes and next hops are those of the UPDATE

module _ (a : Attrs) (h : Option (List ℕ)) (r : Option MpReach) where
  abbrev part : Attrs
  part = record a { next_hop = h; mp_reach = r; mp_unreach = None }

  -- what holds of each attribute of the UPDATE, and of the next hop and MP_REACH_NLRI of the part, holds of each attribute of the part
  module _ (P : Attr → Type 0) (hop : AllByRecursion P (hop_list h)) (reach : AllByRecursion P (reach_list r)) where
    slot-all : (k : ℕ) → AllByRecursion P (slot a k) → AllByRecursion P (slot part k)
    slot-all k here = by (eqb k NEXT_HOP) refl (eqb k MP_REACH_NLRI) refl (eqb k MP_UNREACH_NLRI) refl
      where
        by : (s : Bool) → eqb k NEXT_HOP ≡ s → (t : Bool) → eqb k MP_REACH_NLRI ≡ t → (v : Bool) → eqb k MP_UNREACH_NLRI ≡ v → AllByRecursion P (slot part k)
        by true e t f v g =
            subst (λ (n : ℕ). AllByRecursion P (slot part n)) (sym (eqb-true k NEXT_HOP e)) (subst (λ (xs : List Attr). AllByRecursion P xs) (sym (slot-hop part)) hop)
        by false e true f v g =
            subst (λ (n : ℕ). AllByRecursion P (slot part n)) (sym (eqb-true k MP_REACH_NLRI f)) (subst (λ (xs : List Attr). AllByRecursion P xs) (sym (slot-reach part)) reach)
        by false e false f true g =
            subst (λ (n : ℕ). AllByRecursion P (slot part n)) (sym (eqb-true k MP_UNREACH_NLRI g)) (subst (λ (xs : List Attr). AllByRecursion P xs) (sym (slot-unreach part)) tt)
        by false e false f false g = subst (λ (xs : List Attr). AllByRecursion P xs) (sym (slot-apart a h r None k e f g)) here

    part-all : AllByRecursion P (attr_list a) → AllByRecursion P (attr_list part)
    part-all all = all-carried P P (slot a) (slot part) canonical_order slot-all all

  part-none : (test : Attr → Bool) → AllByRecursion (λ x. test x ≡ false) (hop_list h) → AllByRecursion (λ x. test x ≡ false) (reach_list r)
      → list_any test (attr_list a) ≡ false → list_any test (attr_list part) ≡ false
  part-none test hop reach none = all-none test (attr_list part) (part-all (λ x. test x ≡ false) hop reach (none-all test (attr_list a) none))

-- ---- lengths

-- how often NEXT_HOP occurs among these types
abbrev hops_among : List ℕ → ℕ
hops_among [] = 0
hops_among (k ∷ ks) = cond (eqb k NEXT_HOP) (suc (hops_among ks)) (hops_among ks)

abbrev times : ℕ → ℕ → ℕ
times x zero = zero
times x (suc n) = x + times x n

abbrev others : List ℕ
others = filter (λ kind. not (carries_routes kind)) (types_from 0 256)

one-hop : hops_among others ≡ 1
one-hop = refl

module _ (ctx : Context) where
  size-append : (xs ys : List Attr) → size ctx (xs ++ ys) ≡ size ctx xs + size ctx ys
  size-append xs ys = ap length (flat_map-append (canonical ctx) xs ys) ∙ length-append (flat_map (canonical ctx) xs) (flat_map (canonical ctx) ys)

  order-sizes : (a : Attrs) → size ctx (attr_list a) ≡ size ctx (reach_list a.mp_reach) + (size ctx (present (λ (m : MpUnreach). Attr.MpUnreach m) a.mp_unreach) + size ctx (flat_map (slot a) others))
  unfolding canonical_order
  order-sizes a =
      size-append (slot a MP_REACH_NLRI) (slot a MP_UNREACH_NLRI ++ flat_map (slot a) others)
      ∙ ap₂ (λ (x y : ℕ). x + y) (ap (λ (xs : List Attr). size ctx xs) (slot-reach a))
      (size-append (slot a MP_UNREACH_NLRI) (flat_map (slot a) others) ∙ ap (λ (xs : List Attr). size ctx xs + size ctx (flat_map (slot a) others)) (slot-unreach a))

  module _ (a : Attrs) (h : Option (List ℕ)) (r : Option MpReach) (more : ℕ)
      (hop : size ctx (hop_list h) ≤ size ctx (hop_list a.next_hop) + more) (reach : size ctx (reach_list r) ≤ size ctx (reach_list a.mp_reach)) where
    slot-size : (k : ℕ) → size ctx (slot (part a h r) k) ≤ size ctx (slot a k) + cond (eqb k NEXT_HOP) more 0
    slot-size k = by (eqb k NEXT_HOP) refl (eqb k MP_REACH_NLRI) refl (eqb k MP_UNREACH_NLRI) refl
      where
        by : (s : Bool) → eqb k NEXT_HOP ≡ s → (t : Bool) → eqb k MP_REACH_NLRI ≡ t → (v : Bool) → eqb k MP_UNREACH_NLRI ≡ v
            → size ctx (slot (part a h r) k) ≤ size ctx (slot a k) + cond (eqb k NEXT_HOP) more 0
        by true e t f v g =
            subst (λ (n : ℕ). size ctx (slot (part a h r) n) ≤ size ctx (slot a n) + cond (eqb n NEXT_HOP) more 0) (sym (eqb-true k NEXT_HOP e))
            (omega (arith, ap (λ (xs : List Attr). size ctx xs) (slot-hop (part a h r)), ap (λ (xs : List Attr). size ctx xs) (slot-hop a), hop))
        by false e true f v g =
            subst (λ (n : ℕ). size ctx (slot (part a h r) n) ≤ size ctx (slot a n) + cond (eqb n NEXT_HOP) more 0) (sym (eqb-true k MP_REACH_NLRI f))
            (omega (arith, ap (λ (xs : List Attr). size ctx xs) (slot-reach (part a h r)), ap (λ (xs : List Attr). size ctx xs) (slot-reach a), reach))
        by false e false f true g =
            subst (λ (n : ℕ). size ctx (slot (part a h r) n) ≤ size ctx (slot a n) + cond (eqb n NEXT_HOP) more 0) (sym (eqb-true k MP_UNREACH_NLRI g))
            (omega (arith, ap (λ (xs : List Attr). size ctx xs) (slot-unreach (part a h r))))
        by false e false f false g = omega (arith, ap (λ (xs : List Attr). size ctx xs) (slot-apart a h r None k e f g))

    sizes : (ks : List ℕ) → size ctx (flat_map (slot (part a h r)) ks) ≤ size ctx (flat_map (slot a) ks) + times more (hops_among ks)
    sizes [] = omega arith
    sizes (k ∷ ks) =
        by (eqb k NEXT_HOP) refl (sizes ks) (size-append (slot (part a h r) k) (flat_map (slot (part a h r)) ks)) (size-append (slot a k) (flat_map (slot a) ks)) (slot-size k)
      where
        by : (t : Bool) → eqb k NEXT_HOP ≡ t
            → size ctx (flat_map (slot (part a h r)) ks) ≤ size ctx (flat_map (slot a) ks) + times more (hops_among ks)
            → size ctx (slot (part a h r) k ++ flat_map (slot (part a h r)) ks) ≡ size ctx (slot (part a h r) k) + size ctx (flat_map (slot (part a h r)) ks)
            → size ctx (slot a k ++ flat_map (slot a) ks) ≡ size ctx (slot a k) + size ctx (flat_map (slot a) ks)
            → size ctx (slot (part a h r) k) ≤ size ctx (slot a k) + cond (eqb k NEXT_HOP) more 0
            → size ctx (slot (part a h r) k ++ flat_map (slot (part a h r)) ks) ≤ size ctx (slot a k ++ flat_map (slot a) ks) + times more (cond (eqb k NEXT_HOP) (suc (hops_among ks)) (hops_among ks))
        by true e later p q here =
            subst (λ (t : Bool). size ctx (slot (part a h r) k ++ flat_map (slot (part a h r)) ks) ≤ size ctx (slot a k ++ flat_map (slot a) ks) + times more (cond t (suc (hops_among ks)) (hops_among ks))) (sym e)
            (let now : size ctx (slot (part a h r) k) ≤ size ctx (slot a k) + more = subst (λ (t : Bool). size ctx (slot (part a h r) k) ≤ size ctx (slot a k) + cond t more 0) e here in
            omega (arith, later, p, q, now))
        by false e later p q here =
            subst (λ (t : Bool). size ctx (slot (part a h r) k ++ flat_map (slot (part a h r)) ks) ≤ size ctx (slot a k ++ flat_map (slot a) ks) + times more (cond t (suc (hops_among ks)) (hops_among ks))) (sym e)
            (let now : size ctx (slot (part a h r) k) ≤ size ctx (slot a k) + 0 = subst (λ (t : Bool). size ctx (slot (part a h r) k) ≤ size ctx (slot a k) + cond t more 0) e here in
            omega (arith, later, p, q, now))

    -- the attributes of a part are no longer, but for those of its next hop and MP_REACH_NLRI
    part-size : size ctx (attr_list (part a h r)) + size ctx (reach_list a.mp_reach) ≤ size ctx (attr_list a) + size ctx (reach_list r) + more
    part-size =
        let rest : size ctx (flat_map (slot (part a h r)) others) ≤ size ctx (flat_map (slot a) others) + times more 1 =
        subst (λ (n : ℕ). size ctx (flat_map (slot (part a h r)) others) ≤ size ctx (flat_map (slot a) others) + times more n) one-hop (sizes others) in
        omega (arith, rest, order-sizes (part a h r), order-sizes a)

-- ---- which announcements are complete

module _ (ctx : Context) (u : Update) (acc : IsAccepted ctx u) where
  -- ORIGIN and AS_PATH are present
  abbrev HasPath : Type 0
  HasPath = (is_none u.attrs.origin || is_none u.attrs.as_path) ≡ false

  path-by : (reaches missing hop : Bool) → reaches ≡ true → ((reaches && missing) || hop) ≡ false → missing ≡ false
  path-by true missing hop e none = (or_parts missing hop none).0
  path-by false missing hop e none = absurd (false≢true e)

  has-path : announces u ≡ true → HasPath
  has-path reaches = path-by (announces u) (is_none u.attrs.origin || is_none u.attrs.as_path) (has_nlri u && is_none u.attrs.next_hop) reaches acc.complete

  as4-by : (as4 any fewer : Bool) → (any ≡ false → fewer ≡ false) → (as4 && any) ≡ false → (as4 && fewer) ≡ false
  as4-by true any fewer less e = less e
  as4-by false any fewer less e = refl

  abbrev said : Option (List ℕ) → Option MpReach → List PrefixValue → Update
  said h r n = record { withdrawn = []; attrs = part u.attrs h r; nlri = n }

  -- an announcement is complete: it announces what the UPDATE does, with its next hop
  record IsComplete (h : Option (List ℕ)) (r : Option MpReach) (n : List PrefixValue) : Type 0 where
    reaches : (ltb 0 (length n) || has_routes r) ≡ true → announces u ≡ true
    hop : (ltb 0 (length n) && is_none h) ≡ false
    needless : (is_some h && not (ltb 0 (length n))) ≡ false
    same : (reach_list r ≡ reach_list u.attrs.mp_reach) ⊎ (reach_list r ≡ [])

  module _ (h : Option (List ℕ)) (r : Option MpReach) (n : List PrefixValue) (complete : IsComplete h r n) where
    hop-all : (test : Attr → Bool) → ((x : List ℕ) → test (Attr.NextHop x) ≡ false) → AllByRecursion (λ x. test x ≡ false) (hop_list h)
    hop-all test none = by h
      where
        by : (o : Option (List ℕ)) → AllByRecursion (λ x. test x ≡ false) (hop_list o)
        by None = tt
        by (Some x) = (none x, tt)

    reach-part : (P : Attr → Type 0) → AllByRecursion P (attr_list u.attrs) → AllByRecursion P (reach_list r)
    reach-part P all = elim complete.same [
      | inl is ↦ subst (λ (xs : List Attr). AllByRecursion P xs) (sym is) (reach-all u.attrs P all)
      | inr none ↦ subst (λ (xs : List Attr). AllByRecursion P xs) (sym none) tt
    ]

    none : (test : Attr → Bool) → ((x : List ℕ) → test (Attr.NextHop x) ≡ false) → any_attr test u ≡ false → any_attr test (said h r n) ≡ false
    none test hops e =
        part-none u.attrs h r test (hop-all test hops) (reach-part (λ x. test x ≡ false) (none-all test (attr_list u.attrs) e)) e

    missing-by : (reaches missing : Bool) → (reaches ≡ true → missing ≡ false) → (reaches && missing) ≡ false
    missing-by true missing less = less refl
    missing-by false missing less = refl

    part-accepted : IsAccepted ctx (said h r n)
    part-accepted = record {
      complete =
          or_from (announces (said h r n) && (is_none u.attrs.origin || is_none u.attrs.as_path)) (has_nlri (said h r n) && is_none h)
          (missing-by (announces (said h r n)) (is_none u.attrs.origin || is_none u.attrs.as_path) (λ reaches. has-path (complete.reaches reaches))) complete.hop;
      next_hop = complete.needless;
      local_pref = acc.local_pref;
      narrow = none (is_too_wide ctx) (λ x. refl) acc.narrow;
      allowed = as4-by ctx.as4 (any_attr is_as4 u) (any_attr is_as4 (said h r n)) (none is_as4 (λ x. refl)) acc.allowed;
      family = none (is_out_of_place ctx) (λ x. refl) acc.family;
      some = none is_empty (λ x. refl) acc.some;
      others = acc.others;
      nonzero = none has_as_zero (λ x. refl) acc.nonzero;
      once = none stands_twice (λ x. refl) acc.once;
    }

    part-ranges : HasUpdateRanges u → AllByRecursion HasRanges (hop_list h) → AllByRecursion (IsValid 4) n → HasUpdateRanges (said h r n)
    part-ranges ranges hops routes = record {
      withdrawn = tt;
      attributes = part-all u.attrs h r HasRanges hops (reach-part HasRanges ranges.attributes) ranges.attributes;
      others = ranges.others;
      nlri = routes;
    }

-- ---- both announcements can be written

true-right : (x : Bool) → (x || true) ≡ true
true-right true = refl
true-right false = refl

reached-also : (x y : Bool) → y ≡ true → (x || y) ≡ true
reached-also x true e = true-right x
reached-also x false e = absurd (false≢true e)

or-false : (x : Bool) → (x || false) ≡ true → x ≡ true
or-false true e = refl
or-false false e = e

pub left-true : (x y : Bool) → x ≡ true → (x || y) ≡ true
left-true true y e = refl
left-true false y e = absurd (false≢true e)

positive : (p : PrefixValue) (ps : List PrefixValue) → ltb 0 (length (p ∷ ps)) ≡ true
positive p ps = lt-ltb 0 (length (p ∷ ps)) (omega arith)

module _ (ctx : Context) (u : Update) (body : List ℕ) (can : CanBeWritten ctx u body) where
  acc : IsAccepted ctx u
  acc = valid-accepted ctx u can.valid

  whole : 4 + (run u.withdrawn + (size ctx (attr_list u.attrs) + run u.nlri)) ≤ length body
  whole = omega (arith, can.no_longer, length-body (run_octets u.withdrawn) (attributes_octets ctx u.attrs) (run_octets u.nlri))

  made : (h : Option (List ℕ)) (r : Option MpReach) (n : List PrefixValue) → IsComplete ctx u acc h r n → AllByRecursion HasRanges (hop_list h) → AllByRecursion (IsValid 4) n
      → 4 + (size ctx (attr_list (part u.attrs h r)) + run n) ≤ length body → CanBeWritten ctx (said ctx u acc h r n) body
  made h r n complete hops routes le = record {
    valid = accepted-valid ctx (said ctx u acc h r n) (part-accepted ctx u acc h r n complete);
    ranges = part-ranges ctx u acc h r n complete can.ranges hops routes;
    no_longer = omega (arith, le, length-body (run_octets []) (attributes_octets ctx (part u.attrs h r)) (run_octets n));
  }

  field-hop : AllByRecursion HasRanges (hop_list u.attrs.next_hop)
  field-hop = field-all HasRanges u.attrs NEXT_HOP refl can.ranges.attributes

  pub nlri-part-can : CanBeWritten ctx (nlri_part u) body
  nlri-part-can =
      made u.attrs.next_hop None u.nlri
      (record {
        reaches = λ e. left-true (has_nlri u) (has_routes u.attrs.mp_reach) (or-false (has_nlri u) e);
        hop = (or_parts (announces u && (is_none u.attrs.origin || is_none u.attrs.as_path)) (has_nlri u && is_none u.attrs.next_hop) acc.complete).1;
        needless = acc.next_hop;
        same = inr refl;
      }) field-hop can.ranges.nlri
      (omega (arith, whole, part-size ctx u.attrs u.attrs.next_hop None 0 (omega arith) (omega arith)))

  reached-with : (r : Option MpReach) → u.attrs.mp_reach ≡ r → CanBeWritten ctx (said ctx u acc (hop_part r) (reach_left r) (reached_ip4 r)) body
  reached-with None e =
      made None None [] (record { reaches = λ f. absurd (false≢true f); hop = refl; needless = refl; same = inr refl }) tt tt
      (omega (arith, whole, part-size ctx u.attrs None None 0 (omega arith) (omega arith)))
  reached-with (Some (MpReach.Ip4 hop [])) e =
      made None None [] (record { reaches = λ f. absurd (false≢true f); hop = refl; needless = refl; same = inr refl }) tt tt
      (omega (arith, whole, part-size ctx u.attrs None None 0 (omega arith) (omega arith)))
  reached-with (Some (MpReach.Ip4 hop (p ∷ ps))) e =
      let ranges : AllByRecursion HasRanges (reach_list (Some (MpReach.Ip4 hop (p ∷ ps)))) =
      subst (λ (o : Option MpReach). AllByRecursion HasRanges (reach_list o)) e (reach-all u.attrs HasRanges can.ranges.attributes) in
      let address : IsAddress 4 hop = (ranges.0).0 in
      let wide : length hop ≡ 4 = address.wide in
      let own : size ctx (reach_list u.attrs.mp_reach) ≡ size ctx (reach_list (Some (MpReach.Ip4 hop (p ∷ ps)))) = ap (λ (o : Option MpReach). size ctx (reach_list o)) e in
      let least = (size-one ctx (Attr.MpReach (MpReach.Ip4 hop (p ∷ ps)))).0 in
      let most = (size-one ctx (Attr.NextHop hop)).1 in
      let seven : size ctx (hop_list (Some hop)) ≤ 8 = omega (arith, most, wide) in
      made (Some hop) None (p ∷ ps)
      (record {
        reaches = λ f. reached-also (has_nlri u) (has_routes u.attrs.mp_reach) (ap has_routes e ∙ left-true (ltb 0 (length (p ∷ ps))) false (positive p ps));
        hop = and_right (ltb 0 (length (p ∷ ps))) false refl;
        needless = ap (λ (t : Bool). true && not t) (positive p ps);
        same = inr refl;
      })
      (address, tt) (ranges.0).1
      (omega (arith, whole, part-size ctx u.attrs (Some hop) None 8 (omega (arith, seven)) (omega arith), own, least, reach_added IPV4 hop (p ∷ ps), wide))
  reached-with (Some (MpReach.Ip6 hop link ps)) e =
      made None (Some (MpReach.Ip6 hop link ps)) []
      (record {
        reaches = λ f. reached-also (has_nlri u) (has_routes u.attrs.mp_reach) (ap has_routes e ∙ f);
        hop = refl;
        needless = refl;
        same = inl (ap reach_list (sym e));
      }) tt tt
      (omega (arith, whole, part-size ctx u.attrs None (Some (MpReach.Ip6 hop link ps)) 0 (omega arith) (omega (arith, ap (λ (o : Option MpReach). size ctx (reach_list o)) e)), ap (λ (o : Option MpReach). size ctx (reach_list o)) e))

  pub reached-part-can : CanBeWritten ctx (reached_part u) body
  reached-part-can = reached-with u.attrs.mp_reach refl

  pub parts-can : (p : Part) → CanBeWritten ctx (part_update p u) body
  parts-can Part.Gone = gone-can ctx u body can
  parts-can Part.Nlri = nlri-part-can
  parts-can Part.NlriGone = nlri-can ctx u body can
  parts-can Part.Reached = reached-part-can
  parts-can Part.ReachedGone = reached-can ctx u body can

  pub parts-put : length body ≤ 4077 → PartsCanBePut ctx u
  parts-put short = λ p. (
      let it = parts-can p in
      let le : length (written_body ctx (part_update p u)) ≤ 4077 = omega (arith, it.no_longer, short) in
      record { writable = short-writable ctx (part_update p u) it.valid (none-long ctx (part_update p u) le); short = le })
