-- What a slot keeps is the value of the first attribute of its type.
use Rattle.ristulva_c.proofs.Below.{◌≡◌, ℕ, ◌-◌, Bool, true, false, not, cond, eqb, List, [], ◌∷◌, length, Option, Some, None, refl, sym, ap, ◌∙◌, find, option_or, and_right, or_from, or_left, or_right, find-append, eqb-true, eq-eqb, AS_PATH, COMMUNITIES, MP_REACH_NLRI, MP_UNREACH_NLRI, AS4_PATH, LARGE_COMMUNITY, ◌>>=◌, also, none_of_them, Context, Attr, Communities, LargeCommunities, Judged, MpReach, MpUnreach, As4Path, AsPath, AttributeType, judgement, mp_reach_of, mp_unreach_of, path_of, PlacedTlv, tlvs_of, as_path_form, as4_path_of, communities_of, large_of, type_of, malformed, carries_routes, repeated, marks_behind, placed_tlvs, field_marks, marks_of, Parts, kept_by, kept_of, attrs_from, attrs_of, first_known, is_opaque, as_as_path, as_communities, as_mp_reach, as_mp_unreach, as_as4_path, as_large, has_nlri}
use Rattle.bgp_attr.specs.declared.judged.Judged.TheVariants as judged
use Rattle.bgp_attr.specs.declared.why.Why.TheVariants as why
use Rattle.bgp_attr.proofs.TestRows.{row-at, row_at}
use Rattle.bgp_attr.proofs.EachType.{kept-type, kept-value}
use Rattle.bgp_update.proofs.KeptMarks.{with_cut-kept}
use Rattle.bgp_update.proofs.Options.{option_or-none}
use Rattle.bgp_update.proofs.Lists.{eqb-swap, find-passes}
use Rattle.bgp_update.proofs.TypeLemmas.{is_of}
use Rattle.ristulva_c.specs.Prelude.{first_of_type}

repeated-by : (b : Bool) → kept_by (cond b (judged.Reset malformed) (judged.Discard why.Repeated)) ≡ []
repeated-by true = refl
repeated-by false = refl

repeated-none : (kind : ℕ) → kept_by (repeated kind) ≡ []
repeated-none kind = repeated-by (carries_routes kind)

module _ (ctx : Context) (nlri : Bool) where
  -- the judgement of one attribute, where its type was seen before or not
  abbrev answer : Bool → PlacedTlv → Judged
  answer seen p = cond seen (repeated p.tlv.kind) (judgement ctx nlri p.tlv)

  module _ (kind : ℕ) where
    -- the first attribute of the type is kept as this
    pub record IsFirst (x : Attr) (ps : List PlacedTlv) : Type 0 where
      pub place : PlacedTlv
      pub first : find (λ q. eqb q.tlv.kind kind) ps ≡ Some place
      pub keeps : judgement ctx nlri place.tlv ≡ judged.Keep x

    -- an attribute of another type isn't kept
    other_judged : (p : PlacedTlv) (j : Judged) → judgement ctx nlri p.tlv ≡ j → eqb p.tlv.kind kind ≡ false → first_known (kept_by j) kind ≡ None
    other_judged p (judged.Keep x) is other =
        ap (λ (t : Bool). cond t (Some x) None) (and_right (not (is_opaque x)) (eqb (type_of x) kind) (ap (λ (k : ℕ). eqb k kind) (kept-type ctx nlri p.tlv x is) ∙ other))
    other_judged p (judged.Discard w) is other = refl
    other_judged p (judged.Withdraw w) is other = refl
    other_judged p (judged.Reset n) is other = refl

    other_none : (p : PlacedTlv) (s : Bool) → eqb p.tlv.kind kind ≡ false → first_known (kept_by (answer s p)) kind ≡ None
    other_none p true other = ap (λ (xs : List Attr). first_known xs kind) (repeated-none p.tlv.kind)
    other_none p false other = other_judged p (judgement ctx nlri p.tlv) refl other

    -- after the first of the type none is kept
    none_by : (p : PlacedTlv) (seen : ℕ → Bool) (h : Bool) → eqb p.tlv.kind kind ≡ h → seen kind ≡ true → first_known (kept_by (answer (seen p.tlv.kind) p)) kind ≡ None
    none_by p seen true e old =
        ap (λ (s : Bool). first_known (kept_by (answer s p)) kind) (ap seen (eqb-true p.tlv.kind kind e) ∙ old) ∙ ap (λ (xs : List Attr). first_known xs kind) (repeated-none p.tlv.kind)
    none_by p seen false e old = other_none p (seen p.tlv.kind) e

    later_none : (seen : ℕ → Bool) (ps : List PlacedTlv) → seen kind ≡ true → first_known (kept_of (marks_behind ctx nlri seen ps)) kind ≡ None
    later_none seen [] old = refl
    later_none seen (p ∷ ps) old =
        let rest : List Attr = kept_of (marks_behind ctx nlri (also p.tlv.kind seen) ps) in
        find-append (is_of kind) (kept_by (answer (seen p.tlv.kind) p)) rest
        ∙ ap (λ (o : Option Attr). option_or o (first_known rest kind)) (none_by p seen (eqb p.tlv.kind kind) refl old)
        ∙ later_none (also p.tlv.kind seen) ps (or_right (eqb kind p.tlv.kind) (seen kind) old)

    -- what is kept of it, and nothing where there is none of the type
    abbrev pub taken_of : Option PlacedTlv → Option Attr
    taken_of None = None
    taken_of (Some q) = first_known (kept_by (judgement ctx nlri q.tlv)) kind

    slot_by : (p : PlacedTlv) (ps : List PlacedTlv) (seen : ℕ → Bool) (h : Bool) → eqb p.tlv.kind kind ≡ h → seen kind ≡ false
        → ((also p.tlv.kind seen) kind ≡ false → first_known (kept_of (marks_behind ctx nlri (also p.tlv.kind seen) ps)) kind ≡ taken_of (find (λ q. eqb q.tlv.kind kind) ps))
        → first_known (kept_of (marks_behind ctx nlri seen (p ∷ ps))) kind ≡ taken_of (cond h (Some p) (find (λ q. eqb q.tlv.kind kind) ps))
    slot_by p ps seen true e new later =
        let same : p.tlv.kind ≡ kind = eqb-true p.tlv.kind kind e in
        let rest : List Attr = kept_of (marks_behind ctx nlri (also p.tlv.kind seen) ps) in
        find-append (is_of kind) (kept_by (answer (seen p.tlv.kind) p)) rest
        ∙ ap (λ (o : Option Attr). option_or (first_known (kept_by (answer (seen p.tlv.kind) p)) kind) o)
        (later_none (also p.tlv.kind seen) ps (or_left (eqb kind p.tlv.kind) (seen kind) (eq-eqb kind p.tlv.kind (sym same))))
        ∙ option_or-none (first_known (kept_by (answer (seen p.tlv.kind) p)) kind)
        ∙ ap (λ (s : Bool). first_known (kept_by (answer s p)) kind) (ap seen same ∙ new)
    slot_by p ps seen false e new later =
        let rest : List Attr = kept_of (marks_behind ctx nlri (also p.tlv.kind seen) ps) in
        find-append (is_of kind) (kept_by (answer (seen p.tlv.kind) p)) rest
        ∙ ap (λ (o : Option Attr). option_or o (first_known rest kind)) (other_none p (seen p.tlv.kind) e)
        ∙ later (or_from (eqb kind p.tlv.kind) (seen kind) (eqb-swap kind p.tlv.kind ∙ e) new)

    slot_behind : (seen : ℕ → Bool) (ps : List PlacedTlv) → seen kind ≡ false → first_known (kept_of (marks_behind ctx nlri seen ps)) kind ≡ taken_of (find (λ q. eqb q.tlv.kind kind) ps)
    slot_behind seen [] new = refl
    slot_behind seen (p ∷ ps) new = slot_by p ps seen (eqb p.tlv.kind kind) refl new (slot_behind (also p.tlv.kind seen) ps)

    pub slot_first : (field : List ℕ) → first_known (kept_of (field_marks ctx nlri field)) kind ≡ taken_of (find (λ q. eqb q.tlv.kind kind) (placed_tlvs field))
    unfolding field_marks
    slot_first field =
        ap (λ (xs : List Attr). first_known xs kind) (with_cut-kept (marks_behind ctx nlri none_of_them (placed_tlvs field)) (length field - length (tlvs_of field).1) (tlvs_of field).1)
        ∙ slot_behind none_of_them (placed_tlvs field) refl

    -- what is kept of it is what its judgement keeps
    this_one : (x y : Attr) (t : Bool) → cond t (Some y) None ≡ Some x → y ≡ x
    this_one x y true e = cc
    this_one x y false e = absurd cc

    this_judged : (p : PlacedTlv) (x : Attr) (j : Judged) → judgement ctx nlri p.tlv ≡ j → first_known (kept_by j) kind ≡ Some x → judgement ctx nlri p.tlv ≡ judged.Keep x
    this_judged p x (judged.Keep y) is e = is ∙ ap (λ (z : Attr). judged.Keep z) (this_one x y (is_of kind y) e)
    this_judged p x j is e = absurd cc

    first_of : (ps : List PlacedTlv) (x : Attr) (o : Option PlacedTlv) → find (λ q. eqb q.tlv.kind kind) ps ≡ o → taken_of o ≡ Some x → IsFirst x ps
    first_of ps x None is e = absurd cc
    first_of ps x (Some q) is e = record { place = q; first = is; keeps = this_judged q x (judgement ctx nlri q.tlv) refl e }

    pub first_kept : (field : List ℕ) (x : Attr) → first_known (kept_of (field_marks ctx nlri field)) kind ≡ Some x → IsFirst x (placed_tlvs field)
    first_kept field x has = first_of (placed_tlvs field) x (find (λ q. eqb q.tlv.kind kind) (placed_tlvs field)) refl (sym (slot_first field) ∙ has)

    -- what a judgement keeps is the value of the type's row
    pub row_value : (q : PlacedTlv) (x : Attr) → q.tlv.kind ≡ kind → judgement ctx nlri q.tlv ≡ judged.Keep x → (row_at ctx nlri q.tlv kind).value ≡ x
    row_value q x is keeps = ap (λ (type : AttributeType). type.value) (sym (row-at ctx nlri q.tlv kind is)) ∙ kept-value ctx nlri q.tlv x keeps

    pub value_is : (x : Attr) (ps : List PlacedTlv) (f : IsFirst x ps) → (row_at ctx nlri f.place.tlv kind).value ≡ x
    value_is x ps f = row_value f.place x (eqb-true f.place.tlv.kind kind (find-passes (λ q. eqb q.tlv.kind kind) ps f.place f.first)) f.keeps

-- ---- the slots whose offsets are reported

-- the first attribute of a type, of which this holds
pub record Holds (kind : ℕ) (p : Parts) (P : PlacedTlv → Type 0) : Type 0 where
  pub place : PlacedTlv
  pub first : first_of_type kind p ≡ Some place
  pub holds : P place

module _ (ctx : Context) (p : Parts) where
  abbrev kept : List Attr
  kept = kept_of (marks_of ctx p)

  -- the value of a field is that of the type's row at the first attribute of the type
  field_first : {A : Type 0} (as_value : Attr → Option A) (kind : ℕ) (value : PlacedTlv → A) → ((q : PlacedTlv) → as_value (row_at ctx (has_nlri p) q.tlv kind).value ≡ Some (value q))
      → (r : A) → (first_known kept kind >>= as_value) ≡ Some r → Holds kind p (λ q. r ≡ value q)
  field_first as_value kind value is r has = by (first_known kept kind) refl has
    where
      by : (o : Option Attr) → first_known kept kind ≡ o → (o >>= as_value) ≡ Some r → Holds kind p (λ q. r ≡ value q)
      by None found e = absurd cc
      by (Some x) found e =
          let f = first_kept ctx (has_nlri p) kind p.attributes x found in
          let same : Some (value f.place) ≡ Some r = sym (is f.place) ∙ ap as_value (value_is ctx (has_nlri p) kind x (placed_tlvs p.attributes) f) ∙ e in
          record { place = f.place; first = f.first; holds = cc }

  pub path_first : (r : AsPath) → (attrs_of kept).as_path ≡ Some r → Holds AS_PATH p (λ q. r ≡ path_of (as_path_form ctx) q.tlv.value)
  unfolding attrs_from
  path_first = field_first as_as_path AS_PATH (λ q. path_of (as_path_form ctx) q.tlv.value) (λ q. refl)

  pub as4_path_first : (r : As4Path) → (attrs_of kept).as4_path ≡ Some r → Holds AS4_PATH p (λ q. r ≡ as4_path_of q.tlv)
  unfolding attrs_from
  as4_path_first = field_first as_as4_path AS4_PATH (λ q. as4_path_of q.tlv) (λ q. refl)

  pub communities_first : (r : Communities) → (attrs_of kept).communities ≡ Some r → Holds COMMUNITIES p (λ q. r ≡ communities_of q.tlv)
  unfolding attrs_from
  communities_first = field_first as_communities COMMUNITIES (λ q. communities_of q.tlv) (λ q. refl)

  pub large_first : (r : LargeCommunities) → (attrs_of kept).large ≡ Some r → Holds LARGE_COMMUNITY p (λ q. r ≡ large_of q.tlv)
  unfolding attrs_from
  large_first = field_first as_large LARGE_COMMUNITY (λ q. large_of q.tlv) (λ q. refl)

  pub reach_first : (r : MpReach) → (attrs_of kept).mp_reach ≡ Some r → Holds MP_REACH_NLRI p (λ q. r ≡ mp_reach_of q.tlv.value)
  unfolding attrs_from
  reach_first = field_first as_mp_reach MP_REACH_NLRI (λ q. mp_reach_of q.tlv.value) (λ q. refl)

  pub unreach_first : (r : MpUnreach) → (attrs_of kept).mp_unreach ≡ Some r → Holds MP_UNREACH_NLRI p (λ q. r ≡ mp_unreach_of q.tlv.value)
  unfolding attrs_from
  unreach_first = field_first as_mp_unreach MP_UNREACH_NLRI (λ q. mp_unreach_of q.tlv.value) (λ q. refl)
