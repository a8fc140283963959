-- The offsets of kept attributes by type: one more of them, and the attribute in the slot of a type.
use Rattle.bgp_wire.proofs.Std.{◌≡◌, ℕ, zero, suc, ◌<◌, ◌≤◌, Bool, true, false, not, ◌||◌, cond, eqb, ltb, List, [], ◌∷◌, length, get_or, set, replicate, Option, Some, None, refl, sym, ap, ap₂, subst, ◌∙◌, arith, option_or, eqb-false, and_parts, ltb-true, both_ways, not-true}
use Rattle.std.specs.Prelude.{◌-◌, option_map, slice_index_or, IfSome, IsTrue}
use Rattle.std.proofs.lemmas.Bool.{eqb-true}
use Rattle.std.proofs.Math.ListN.{drop_of_length-le}
use Rattle.std.proofs.lemmas.Grind.{get_or-set_at}
use Rattle.std.proofs.lemmas.List.{get_or-set_other}
use Rattle.bgp_open.specs.declared.context.Context.{Context}
use Rattle.bgp_attr.specs.declared.attr.Attr.{Attr}
use Rattle.bgp_attr.specs.Prelude.{is_kept, AttributeType, is_recognised, judgement, other_type, type_row, types, TlvValue, type_of, one_tlv, tlv_at, tlv_value}
use Rattle.bgp_attr.specs.Judgement as judgement
use Rattle.bgp_attr.specs.Tlv as tlv
use Rattle.bgp_attr.specs.declared.tlv.Tlv.{Tlv}
use Rattle.bgp_attr.proofs.Tables.{by_row, entry-passes}
use Rattle.bgp_attr.proofs.TestRows.{row-other}
use Rattle.bgp_update.specs.declared.kept_view.TheConstants.{TYPES, PASSED}
use Rattle.bgp_update.specs.Prelude.{Kept, kept_behind, attrs_from, first_known, is_opaque, tlv_placed, placed_also, IsKeptAs, ArePlaced, present, slot}
use Rattle.bgp_update.proofs.Options.{map_filled, option_or-none}
use Rattle.bgp_update.proofs.KeptViews.{or_false, or_true}
use Rattle.bgp_update.proofs.Lists.{eqb-swap}
use Rattle.bgp_update.proofs.SlotLemmas.{each-row, IsTyped, slot-from, other-from}
use Rattle.bgp_update.proofs.TypeLemmas.{is_of}

-- where no offset is set, there is no attribute
pub none_placed : (n k : ℕ) → (let none : ℕ = 0 in get_or (replicate n none) k none ≡ none)
none_placed zero k = refl
none_placed (suc n) zero = refl
none_placed (suc n) (suc k) = none_placed n k

-- each recognised type has an entry
pub kind-low : (kind : ℕ) → is_recognised kind ≡ true → kind < TYPES
kind-low kind known = ltb-true kind TYPES (entry-passes (λ (k : ℕ). ltb k TYPES) kind judgement.recognised refl known)

-- ---- one more attribute

-- an attribute is found at its type too, where none was before
abbrev pub also_at : ℕ → TlvValue → (ℕ → Option TlvValue) → ℕ → Option TlvValue
also_at kind t tlv = λ k. cond (eqb k kind) (option_or (tlv k) (Some t)) (tlv k)

module _ (ctx : Context) (has_nlri : Bool) (t : TlvValue) where
  abbrev value : TlvValue → Attr
  value = λ s. (type_row ctx has_nlri s).value

  -- the value of a recognised type is of that type
  pub of_type : is_recognised t.kind ≡ true → is_of t.kind (value t) ≡ true
  unfolding type_row
  of_type known =
      by_row t.kind (other_type t) (λ kind type. is_of kind type.value ≡ true) (types ctx has_nlri t)
      (each-row (λ kind type. is_of kind type.value) (λ kind type. true) (types ctx has_nlri t) refl) (λ other. absurd (both_ways (is_recognised t.kind) other known))

  module _ (tlv : ℕ → Option TlvValue) (others : Bool) where
    abbrev before : Kept
    before = record { known = λ kind. option_map value (tlv kind); others = others }

    -- one more of a recognised type
    pub known_more : is_recognised t.kind ≡ true
        → (let after : Kept = record { known = λ kind. option_map value (also_at t.kind t tlv kind); others = others } in after) ≡ kept_behind before (value t ∷ [])
    known_more known = λ i. record { known = λ kind. at kind (eqb kind t.kind) refl i; others = (sym (or_false others) ∙ ap (λ (b : Bool). others || (b || false)) (sym is.1)) i }
      where
        is : (type_of (value t) ≡ t.kind) × (is_opaque (value t) ≡ false)
        is = let p = and_parts (not (is_opaque (value t))) (eqb (type_of (value t)) t.kind) (of_type known) in (eqb-true (type_of (value t)) t.kind p.1, not-true (is_opaque (value t)) p.0)

        first : (kind : ℕ) → first_known (value t ∷ []) kind ≡ cond (eqb kind t.kind) (Some (value t)) None
        first kind = rw (is.1, is.0, eqb-swap t.kind kind) refl

        at : (kind : ℕ) (b : Bool) → eqb kind t.kind ≡ b → option_map value (also_at t.kind t tlv kind) ≡ option_or (option_map value (tlv kind)) (first_known (value t ∷ []) kind)
        at kind true e = rw (first kind, e) (map_filled value (tlv kind) t)
        at kind false e = rw (first kind, e) (sym (option_or-none (option_map value (tlv kind))))

    -- and of another
    pub other_more : is_recognised t.kind ≡ false
        → (let after : Kept = record { known = λ kind. option_map value (tlv kind); others = true } in after) ≡ kept_behind before (value t ∷ [])
    other_more other =
        (λ i. record { known = λ kind. sym (option_or-none (option_map value (tlv kind))) i; others = sym (or_true others) i })
        ∙ ap (λ (type : AttributeType). kept_behind before (type.value ∷ [])) (sym (row-other ctx has_nlri t other))

-- ---- one more offset

module _ (places : List ℕ) (kind n : ℕ) (low : kind < length places) where
  abbrev pub more : List ℕ
  more = set places kind n

  here : (k : ℕ) → k ≡ kind → slice_index_or more k 0 ≡ n
  here k same = get_or-set_at places kind k n 0 same low

  elsewhere : (k : ℕ) → (k ≡ kind → ⊥) → slice_index_or more k 0 ≡ slice_index_or places k 0
  elsewhere k other = get_or-set_other places kind k n 0 other

  -- the attribute at an offset, and whether there is one
  pub more_by : {A : Type 0} (f : ℕ → A) (k : ℕ) → f (slice_index_or more k 0) ≡ cond (eqb k kind) (f n) (f (slice_index_or places k 0))
  more_by f k = by (eqb k kind) refl
    where
      by : (b : Bool) → eqb k kind ≡ b → f (slice_index_or more k 0) ≡ cond b (f n) (f (slice_index_or places k 0))
      by true e = ap f (here k (eqb-true k kind e))
      by false e = ap f (elsewhere k (eqb-false k kind e))

  pub more-placed : (ctx : Context) (has_nlri : Bool) (field : List ℕ) → ((t : TlvValue) → tlv_placed field n ≡ Some t → IsKeptAs ctx has_nlri kind t)
      → ArePlaced ctx has_nlri field places → ArePlaced ctx has_nlri field more
  more-placed ctx has_nlri field kept old = record { each = λ k t is. by k t is (eqb k kind) refl }
    where
      by : (k : ℕ) (t : TlvValue) → tlv_placed field (slice_index_or more k 0) ≡ Some t → (b : Bool) → eqb k kind ≡ b → IsKeptAs ctx has_nlri k t
      by k t is true e =
          let same : k ≡ kind = eqb-true k kind e in
          subst (λ (j : ℕ). IsKeptAs ctx has_nlri j t) (sym same) (kept t (ap (tlv_placed field) (sym (here k same)) ∙ is))
      by k t is false e = old.each k t (ap (tlv_placed field) (sym (elsewhere k (eqb-false k kind e))) ∙ is)

-- then the type is seen
pub seen_also : (b : Bool) (n place : ℕ) → 0 < n → cond b (not (eqb n 0)) (not (eqb place 0)) ≡ (b || not (eqb place 0))
seen_also false n place some = refl
seen_also true n place some = by (eqb n 0) refl
  where
    by : (z : Bool) → eqb n 0 ≡ z → not (eqb n 0) ≡ true
    by true e = let zero : n ≡ 0 = eqb-true n 0 e in absurd (omega (arith, some, zero))
    by false e = ap not e

-- where no attribute of a type was seen, its entry is 0
pub first_none : (field places : List ℕ) (kind : ℕ) → not (eqb (slice_index_or places kind 0) 0) ≡ false → tlv_placed field (slice_index_or places kind 0) ≡ None
first_none field places kind unseen = by (eqb (slice_index_or places kind 0) 0) refl
  where
    by : (z : Bool) → eqb (slice_index_or places kind 0) 0 ≡ z → tlv_placed field (slice_index_or places kind 0) ≡ None
    by true e = ap (tlv_placed field) (eqb-true (slice_index_or places kind 0) 0 e)
    by false e = absurd (both_ways (not (eqb (slice_index_or places kind 0) 0)) unseen (ap not e))

-- no attribute begins at an offset that large
pub none_so_far : (field : List ℕ) → length field ≤ 4075 → tlv_placed field PASSED ≡ None
unfolding tlv.one_tlv
none_so_far field short =
    let past : length field ≤ 65534 = omega (arith, short) in
    ap (λ (octets : List ℕ). option_map (λ (x : TlvValue × List ℕ). x.0) (one_tlv octets)) (drop_of_length-le field past)

-- with one attribute of a type of which there was none
pub placed_first : (tlv : ℕ → Option TlvValue) (kind : ℕ) (t : TlvValue) → tlv kind ≡ None → placed_also kind (Some t) tlv ≡ also_at kind t tlv
placed_first tlv kind t none = λ i k. by k (eqb k kind) refl i
  where
    by : (k : ℕ) (b : Bool) → eqb k kind ≡ b → cond b (Some t) (tlv k) ≡ cond b (option_or (tlv k) (Some t)) (tlv k)
    by k true e = ap (λ (o : Option TlvValue). option_or o (Some t)) (sym none ∙ ap tlv (sym (eqb-true k kind e)))
    by k false e = refl

-- with none of it
pub placed_none : (tlv : ℕ → Option TlvValue) (kind : ℕ) → tlv kind ≡ None → placed_also kind None tlv ≡ tlv
placed_none tlv kind none = λ i k. by k (eqb k kind) refl i
  where
    by : (k : ℕ) (b : Bool) → eqb k kind ≡ b → cond b None (tlv k) ≡ tlv k
    by k true e = sym none ∙ ap tlv (sym (eqb-true k kind e))
    by k false e = refl

-- ---- the attribute read at the offset of a type

module _ (ctx : Context) (has_nlri : Bool) (field places : List ℕ) (all : ArePlaced ctx has_nlri field places) where
  abbrev tlv_of : ℕ → Option TlvValue
  tlv_of = λ k. tlv_placed field (slice_index_or places k 0)

  -- it is of that type and kept, and so is its value
  pub read-at : (kind n : ℕ) (o : Option Tlv) → slice_index_or places kind 0 ≡ n → 0 < n → option_map tlv_value o ≡ tlv_at field (n - 1) → IfSome o (λ t. (t.kind ≡ kind) × IsTrue (is_kept (judgement ctx has_nlri (tlv_value t))))
  read-at kind n None is some e = tt
  read-at kind zero (Some t) is some e = absurd (omega arith)
  read-at kind (suc m) (Some t) is some e =
      let is_kept = all.each kind (tlv_value t) (ap (tlv_placed field) is ∙ ap (tlv_at field) (let same : m ≡ suc m - 1 = omega arith in same) ∙ sym e) in (is_kept.0, is_kept.2)

  abbrev pub ValueThere : ℕ → List Attr → Type 0
  ValueThere kind ys = ys ≡ present (λ (t : TlvValue). (type_row ctx has_nlri t).value) (tlv_of kind)

  abbrev value_of : ℕ → Option Attr
  value_of kind = option_map (λ (t : TlvValue). (type_row ctx has_nlri t).value) (tlv_of kind)

  present-map : {A B : Type 0} (f : A → B) (as_attr : B → Attr) (o : Option A) → present as_attr (option_map f o) ≡ present (λ (v : A). as_attr (f v)) o
  present-map f as_attr None = refl
  present-map f as_attr (Some v) = refl

  typed : (kind : ℕ) → IsTyped kind (value_of kind)
  typed kind x e = by (tlv_of kind) refl e
    where
      by : (o : Option TlvValue) → tlv_of kind ≡ o → option_map (λ (t : TlvValue). (type_row ctx has_nlri t).value) o ≡ Some x → is_of kind x ≡ true
      by None f g = absurd cc
      by (Some t) f g =
          let p = all.each kind t f in
          let q = of_type ctx has_nlri t (ap is_recognised p.0 ∙ p.1) in
          let same : (type_row ctx has_nlri t).value ≡ x = cc in
          ap₂ (λ (k : ℕ) (y : Attr). is_of k y) (sym p.0) (sym same) ∙ q

  nothing-valued : (kind : ℕ) → is_recognised kind ≡ false → ValueThere kind []
  nothing-valued kind other = by (tlv_of kind) refl
    where
      by : (o : Option TlvValue) → tlv_of kind ≡ o → [] ≡ present (λ (t : TlvValue). (type_row ctx has_nlri t).value) o
      by None e = refl
      by (Some t) e = absurd (both_ways (is_recognised kind) other (all.each kind t e).1)

  -- the attribute in the slot of a type is the value of the attribute at its offset
  pub slot-value : (kind : ℕ) → slot (attrs_from value_of []) kind ≡ present (λ (t : TlvValue). (type_row ctx has_nlri t).value) (tlv_of kind)
  slot-value kind = by (is_recognised kind) refl
    where
      by : (b : Bool) → is_recognised kind ≡ b → slot (attrs_from value_of []) kind ≡ present (λ (t : TlvValue). (type_row ctx has_nlri t).value) (tlv_of kind)
      by true known = slot-from value_of [] kind (typed kind) known ∙ present-map (λ (t : TlvValue). (type_row ctx has_nlri t).value) (λ (x : Attr). x) (tlv_of kind)
      by false other = other-from value_of [] kind other ∙ nothing-valued kind other
