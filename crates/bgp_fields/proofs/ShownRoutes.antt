-- Routes by family and by the field that has them.
use Rattle.bgp_fields.proofs.Prelude.{◌≡◌, ℕ, Bool, true, false, not, cond, eqb, List, [], ◌∷◌, ◌++◌, map, Option, Some, None, refl, sym, ap, ap₂, subst, ◌∙◌}
use Rattle.bgp_fields.proofs.Prelude.{flat_map, and_parts, or_left, or_right, flat_map-cons, true≢false, eqb-true, eq-eqb, append-nil, MP_REACH_NLRI}
use Rattle.bgp_fields.proofs.Prelude.{MP_UNREACH_NLRI, Kind, header, ◌>>=◌, AreOctets, also, none_of_them, AreOctets-front, Splits-pieces, Context}
use Rattle.bgp_fields.proofs.Prelude.{PrefixValue, run_of, Attr, MpReach, MpUnreach, TlvValue, IsTlv, one_tlv, tlvs_of, placed_from, type_of, IsTlv-reads}
use Rattle.bgp_fields.proofs.Prelude.{marks_behind, field_marks, marks_of, gone_ip4, gone_ip6, reached_ip4, reached_ip6, Parts, IsBody, kept_of, attrs_from}
use Rattle.bgp_fields.proofs.Prelude.{attrs_of, first_known, is_opaque, update_of, as_mp_reach, as_mp_unreach, reset_of, has_nlri, with_cut-kept, row-kept}
use Rattle.bgp_fields.proofs.Prelude.{FieldKind, fields_of, is_withdrawn_prefix, is_unreach_prefix4, is_unreach_prefix6, is_reach_prefix4, is_reach_prefix6}
use Rattle.bgp_fields.proofs.Prelude.{is_nlri_prefix, prefixes_shown, ShowsRoutes}
use Rattle.bgp_update.proofs.TypeLemmas.{is_of}
use Rattle.bgp_update.proofs.Lists.{flat_map-same}
use Rattle.bgp_update.proofs.Rising.{NoneTwice}
use Rattle.bgp_fields.proofs.Showing.{pick}
use Rattle.bgp_fields.proofs.ShowingAttributes.{reach_opt, unreach_opt, attr_shown}
use Rattle.bgp_fields.proofs.ShowingUpdates.{update-shows}

-- ---- a slot has the one attribute of its type

module _ (A : Type 0) (slot : Attr → Option A) (kind : ℕ) (alone : (x : Attr) → (first_known (x ∷ []) kind >>= slot) ≡ slot x) (g : Option A → List PrefixValue) (none : g None ≡ []) where
  type-is : (x : Attr) → is_of kind x ≡ true → type_of x ≡ kind
  type-is x is = eqb-true (type_of x) kind (and_parts (not (is_opaque x)) (eqb (type_of x) kind) is).1

  other-none : (x : Attr) → is_of kind x ≡ false → g (slot x) ≡ []
  other-none x other = ap g (sym (alone x) ∙ ap (λ (t : Bool). cond t (Some x) None >>= slot) other) ∙ none

  none-by : (x : Attr) (seen : ℕ → Bool) (t : Bool) → is_of kind x ≡ t → seen kind ≡ true → seen (type_of x) ≡ false → g (slot x) ≡ []
  none-by x seen true is old new = absurd (true≢false (sym old ∙ ap seen (sym (type-is x is)) ∙ new))
  none-by x seen false is old new = other-none x is

  none-left : (seen : ℕ → Bool) (xs : List Attr) → seen kind ≡ true → NoneTwice seen (map type_of xs) → flat_map (λ x. g (slot x)) xs ≡ []
  none-left seen [] old fresh = refl
  none-left seen (x ∷ xs) old fresh =
      flat_map-cons (λ (y : Attr). g (slot y)) x xs
      ∙ ap₂ (λ (a b : List PrefixValue). a ++ b) (none-by x seen (is_of kind x) refl old fresh.0)
      (none-left (also (type_of x) seen) xs (or_right (eqb kind (type_of x)) (seen kind) old) fresh.1)

  first-by : (x : Attr) (xs : List Attr) (seen : ℕ → Bool) (t : Bool) → is_of kind x ≡ t → NoneTwice (also (type_of x) seen) (map type_of xs)
      → flat_map (λ y. g (slot y)) xs ≡ g (first_known xs kind >>= slot) → g (slot x) ++ flat_map (λ y. g (slot y)) xs ≡ g (cond t (Some x) (first_known xs kind) >>= slot)
  first-by x xs seen true is fresh later =
      ap (λ (b : List PrefixValue). g (slot x) ++ b)
      (none-left (also (type_of x) seen) xs (or_left (eqb kind (type_of x)) (seen kind) (eq-eqb kind (type_of x) (sym (type-is x is)))) fresh)
      ∙ append-nil (g (slot x))
  first-by x xs seen false is fresh later = ap₂ (λ (a b : List PrefixValue). a ++ b) (other-none x is) later

  pub first-only : (seen : ℕ → Bool) (xs : List Attr) → NoneTwice seen (map type_of xs) → flat_map (λ x. g (slot x)) xs ≡ g (first_known xs kind >>= slot)
  first-only seen [] fresh = sym none
  first-only seen (x ∷ xs) fresh =
      flat_map-cons (λ (y : Attr). g (slot y)) x xs ∙ first-by x xs seen (is_of kind x) refl fresh.1 (first-only (also (type_of x) seen) xs fresh.1)

reach-alone : (x : Attr) → (first_known (x ∷ []) MP_REACH_NLRI >>= as_mp_reach) ≡ as_mp_reach x
reach-alone (Attr.MpReach r) = refl
reach-alone _ = refl

unreach-alone : (x : Attr) → (first_known (x ∷ []) MP_UNREACH_NLRI >>= as_mp_unreach) ≡ as_mp_unreach x
unreach-alone (Attr.MpUnreach r) = refl
unreach-alone _ = refl

-- ---- what kept attributes of distinct types show

module _ (ctx : Context) (xs : List Attr) (seen : ℕ → Bool) (fresh : NoneTwice seen (map type_of xs)) where
  abbrev all : (FieldKind → Bool) → List PrefixValue
  all chosen = flat_map (attr_shown ctx chosen) xs

  -- where MP_UNREACH_NLRI shows nothing
  reach-all : (chosen : FieldKind → Bool) (g : Option MpReach → List PrefixValue) → g None ≡ [] → ((o : Option MpReach) → reach_opt ctx chosen o ≡ g o)
      → ((o : Option MpUnreach) → unreach_opt ctx chosen o ≡ []) → all chosen ≡ g (attrs_of xs).mp_reach
  unfolding attrs_from
  reach-all chosen g none same empty =
      flat_map-same (attr_shown ctx chosen) (λ x. g (as_mp_reach x)) xs
      (λ x. ap₂ (λ (a b : List PrefixValue). a ++ b) (same (as_mp_reach x)) (empty (as_mp_unreach x)) ∙ append-nil (g (as_mp_reach x)))
      ∙ first-only MpReach as_mp_reach MP_REACH_NLRI reach-alone g none seen xs fresh

  unreach-all : (chosen : FieldKind → Bool) (g : Option MpUnreach → List PrefixValue) → g None ≡ [] → ((o : Option MpUnreach) → unreach_opt ctx chosen o ≡ g o)
      → ((o : Option MpReach) → reach_opt ctx chosen o ≡ []) → all chosen ≡ g (attrs_of xs).mp_unreach
  unfolding attrs_from
  unreach-all chosen g none same empty =
      flat_map-same (attr_shown ctx chosen) (λ x. g (as_mp_unreach x)) xs
      (λ x. ap₂ (λ (a b : List PrefixValue). a ++ b) (empty (as_mp_reach x)) (same (as_mp_unreach x)))
      ∙ first-only MpUnreach as_mp_unreach MP_UNREACH_NLRI unreach-alone g none seen xs fresh

  no-reach : (chosen : FieldKind → Bool) → chosen FieldKind.ReachPrefix4 ≡ false → chosen FieldKind.ReachPrefix6 ≡ false → (o : Option MpReach) → reach_opt ctx chosen o ≡ []
  no-reach chosen a b None = refl
  no-reach chosen a b (Some (MpReach.Ip4 hop routes)) = ap (λ (t : Bool). pick t routes) a
  no-reach chosen a b (Some (MpReach.Ip6 hop link routes)) = ap (λ (t : Bool). pick t routes) b

  no-unreach : (chosen : FieldKind → Bool) → chosen FieldKind.UnreachPrefix4 ≡ false → chosen FieldKind.UnreachPrefix6 ≡ false → (o : Option MpUnreach) → unreach_opt ctx chosen o ≡ []
  no-unreach chosen a b None = refl
  no-unreach chosen a b (Some (MpUnreach.Ip4 routes)) = ap (λ (t : Bool). pick t routes) a
  no-unreach chosen a b (Some (MpUnreach.Ip6 routes)) = ap (λ (t : Bool). pick t routes) b

  same-reach4 : (o : Option MpReach) → reach_opt ctx is_reach_prefix4 o ≡ reached_ip4 o
  same-reach4 None = refl
  same-reach4 (Some (MpReach.Ip4 hop routes)) = refl
  same-reach4 (Some (MpReach.Ip6 hop link routes)) = refl

  same-reach6 : (o : Option MpReach) → reach_opt ctx is_reach_prefix6 o ≡ reached_ip6 o
  same-reach6 None = refl
  same-reach6 (Some (MpReach.Ip4 hop routes)) = refl
  same-reach6 (Some (MpReach.Ip6 hop link routes)) = refl

  same-unreach4 : (o : Option MpUnreach) → unreach_opt ctx is_unreach_prefix4 o ≡ gone_ip4 o
  same-unreach4 None = refl
  same-unreach4 (Some (MpUnreach.Ip4 routes)) = refl
  same-unreach4 (Some (MpUnreach.Ip6 routes)) = refl

  same-unreach6 : (o : Option MpUnreach) → unreach_opt ctx is_unreach_prefix6 o ≡ gone_ip6 o
  same-unreach6 None = refl
  same-unreach6 (Some (MpUnreach.Ip4 routes)) = refl
  same-unreach6 (Some (MpUnreach.Ip6 routes)) = refl

  pub reach4-all : all is_reach_prefix4 ≡ reached_ip4 (attrs_of xs).mp_reach
  reach4-all = reach-all is_reach_prefix4 reached_ip4 refl same-reach4 (no-unreach is_reach_prefix4 refl refl)

  pub reach6-all : all is_reach_prefix6 ≡ reached_ip6 (attrs_of xs).mp_reach
  reach6-all = reach-all is_reach_prefix6 reached_ip6 refl same-reach6 (no-unreach is_reach_prefix6 refl refl)

  pub unreach4-all : all is_unreach_prefix4 ≡ gone_ip4 (attrs_of xs).mp_unreach
  unreach4-all = unreach-all is_unreach_prefix4 gone_ip4 refl same-unreach4 (no-reach is_unreach_prefix4 refl refl)

  pub unreach6-all : all is_unreach_prefix6 ≡ gone_ip6 (attrs_of xs).mp_unreach
  unreach6-all = unreach-all is_unreach_prefix6 gone_ip6 refl same-unreach6 (no-reach is_unreach_prefix6 refl refl)

  pub none-all : (chosen : FieldKind → Bool) → chosen FieldKind.ReachPrefix4 ≡ false → chosen FieldKind.ReachPrefix6 ≡ false
      → chosen FieldKind.UnreachPrefix4 ≡ false → chosen FieldKind.UnreachPrefix6 ≡ false → all chosen ≡ []
  none-all chosen a b c d = reach-all chosen (λ o. []) refl (no-reach chosen a b) (no-unreach chosen c d)

-- ---- a whole UPDATE

kept-fresh : (ctx : Context) (nlri : Bool) (b : List ℕ) → AreOctets b → NoneTwice none_of_them (map type_of (kept_of (field_marks ctx nlri b)))
unfolding field_marks
kept-fresh ctx nlri b octets =
    let s = Splits-pieces TlvValue IsTlv one_tlv IsTlv-reads b in
    subst (λ (xs : List Attr). NoneTwice none_of_them (map type_of xs)) (sym (with_cut-kept (marks_behind ctx nlri none_of_them (placed_from 0 (tlvs_of b).0)) _ (tlvs_of b).1))
    (row-kept ctx nlri (tlvs_of b).0 s.row 0 none_of_them s.spelled (AreOctets-front s.row (tlvs_of b).1 (subst AreOctets s.whole octets))).fresh

pub routes-shown : (ctx : Context) (p : Parts) (n : ℕ) (body : List ℕ) → AreOctets body → AreOctets p.attributes → IsBody p body → reset_of p (marks_of ctx p) ≡ None
    → ShowsRoutes (header Kind.Update n ++ body) (fields_of ctx (header Kind.Update n ++ body)) (update_of p (marks_of ctx p))
routes-shown ctx p n body octets attributes is goes =
    let xs = kept_of (marks_of ctx p) in
    let w = (run_of 4 p.withdrawn).0 in
    let r = (run_of 4 p.nlri).0 in
    let fresh = kept-fresh ctx (has_nlri p) p.attributes attributes in
    let shows : (chosen : FieldKind → Bool) → prefixes_shown chosen (header Kind.Update n ++ body) (fields_of ctx (header Kind.Update n ++ body))
    ≡ pick (chosen FieldKind.WithdrawnPrefix) w ++ (flat_map (attr_shown ctx chosen) xs ++ pick (chosen FieldKind.NlriPrefix) r)
    = λ chosen. update-shows ctx chosen p n body octets is goes in
    let none : (chosen : FieldKind → Bool) → chosen FieldKind.ReachPrefix4 ≡ false → chosen FieldKind.ReachPrefix6 ≡ false → chosen FieldKind.UnreachPrefix4 ≡ false
    → chosen FieldKind.UnreachPrefix6 ≡ false → flat_map (attr_shown ctx chosen) xs ≡ [] = none-all ctx xs none_of_them fresh in
    record {
      withdrawn = shows is_withdrawn_prefix ∙ ap (λ (a : List PrefixValue). w ++ (a ++ [])) (none is_withdrawn_prefix refl refl refl refl) ∙ append-nil w;
      unreach4 = shows is_unreach_prefix4 ∙ append-nil _ ∙ unreach4-all ctx xs none_of_them fresh;
      unreach6 = shows is_unreach_prefix6 ∙ append-nil _ ∙ unreach6-all ctx xs none_of_them fresh;
      reach4 = shows is_reach_prefix4 ∙ append-nil _ ∙ reach4-all ctx xs none_of_them fresh;
      reach6 = shows is_reach_prefix6 ∙ append-nil _ ∙ reach6-all ctx xs none_of_them fresh;
      nlri = shows is_nlri_prefix ∙ ap (λ (a : List PrefixValue). a ++ r) (none is_nlri_prefix refl refl refl refl);
    }
