-- Marks that each keep their attribute, and attributes of distinct types.
use Rattle.bgp_wire.proofs.Std.{◌≡◌, ℕ, ◌+◌, ◌-◌, ◌≤◌, Bool, true, false, eqb, List, [], ◌∷◌, ◌++◌, length, map, None, refl, sym, ap, ap₂, subst, ◌∙◌, arith, flat_map, list_any, AllByRecursion, option_or, cond-false, or_parts, or_from}
use Rattle.std.proofs.lemmas.List.{append-nil}
use Rattle.bgp_wire.specs.Prelude.{Row, also, none_of_them}
use Rattle.bgp_wire.proofs.Behinds.{pieces-whole}
use Rattle.bgp_open.specs.declared.context.Context.{Context}
use Rattle.bgp_attr.specs.declared.attr.Attr.{Attr}
use Rattle.bgp_attr.specs.declared.judged.Judged.{Judged}
use Rattle.bgp_attr.specs.Prelude.{TlvValue, IsTlv, one_tlv, tlvs_of, placed_from, judgement, written_tlv, canonical, type_of, is_writable, Belongs, HasRanges}
use Rattle.bgp_attr.specs.declared.judged.Judged.TheVariants as judged
use Rattle.bgp_attr.proofs.Readers.{IsTlv-reads}
use Rattle.bgp_attr.proofs.ReadBack.{written-spells}
use Rattle.bgp_attr.proofs.EachType.{written-kept}
use Rattle.bgp_update.specs.Prelude.{Mark, repeated, marks_behind, cut_mark, field_marks, kept_by, kept_of, mark_notes, first_reset, reset_by, withdraws}
use Rattle.bgp_update.proofs.Rising.{NoneTwice}
use Rattle.bgp_update.proofs.TypeLemmas.{fresh-fewer, OfType}

-- ---- marks that keep their attributes

-- the marks keep these attributes, one each
abbrev pub KeepsAll : List Mark → List Attr → Type 0
KeepsAll [] [] = Unit {0}
KeepsAll (m ∷ ms) (x ∷ xs) = (m.judged ≡ judged.Keep x) × KeepsAll ms xs
KeepsAll [] (x ∷ xs) = ⊥
KeepsAll (m ∷ ms) [] = ⊥

pub keeps-kept : (ms : List Mark) (xs : List Attr) → KeepsAll ms xs → kept_of ms ≡ xs
keeps-kept [] [] all = refl
keeps-kept (m ∷ ms) (x ∷ xs) all = ap₂ (λ (a b : List Attr). a ++ b) (ap kept_by all.0) (keeps-kept ms xs all.1)
keeps-kept [] (x ∷ xs) all = absurd all
keeps-kept (m ∷ ms) [] all = absurd all

pub keeps-no_reset : (ms : List Mark) (xs : List Attr) → KeepsAll ms xs → first_reset ms ≡ None
keeps-no_reset [] [] all = refl
keeps-no_reset (m ∷ ms) (x ∷ xs) all = ap (λ (j : Judged). option_or (reset_by j) (first_reset ms)) all.0 ∙ keeps-no_reset ms xs all.1
keeps-no_reset [] (x ∷ xs) all = absurd all
keeps-no_reset (m ∷ ms) [] all = absurd all

pub keeps-no_withdrawal : (ms : List Mark) (xs : List Attr) → KeepsAll ms xs → list_any (λ m. withdraws m.judged) ms ≡ false
keeps-no_withdrawal [] [] all = refl
keeps-no_withdrawal (m ∷ ms) (x ∷ xs) all = or_from (withdraws m.judged) (list_any (λ m. withdraws m.judged) ms) (ap withdraws all.0) (keeps-no_withdrawal ms xs all.1)
keeps-no_withdrawal [] (x ∷ xs) all = absurd all
keeps-no_withdrawal (m ∷ ms) [] all = absurd all

pub keeps-no_note : (at : ℕ) (ms : List Mark) (xs : List Attr) → KeepsAll ms xs → flat_map (mark_notes at) ms ≡ []
keeps-no_note at [] [] all = refl
keeps-no_note at (m ∷ ms) (x ∷ xs) all = let none : mark_notes at m ≡ [] = rw all.0 refl in rw (none, keeps-no_note at ms xs all.1) refl
keeps-no_note at [] (x ∷ xs) all = absurd all
keeps-no_note at (m ∷ ms) [] all = absurd all

-- ---- written attributes

-- what a written attribute needs to be kept
pub record IsReady (ctx : Context) (has_nlri : Bool) (x : Attr) : Type 0 where
  pub writable : is_writable ctx x ≡ true
  pub in_place : Belongs ctx has_nlri x
  pub ranges : HasRanges x

module _ (ctx : Context) (has_nlri : Bool) where
  abbrev pub AreReady : List Attr → Type 0
  AreReady xs = AllByRecursion (IsReady ctx has_nlri) xs

  pub written-row : (xs : List Attr) → AreReady xs → Row IsTlv (map (written_tlv ctx) xs) (flat_map (canonical ctx) xs)
  written-row [] ready = refl
  written-row (x ∷ xs) ready = (canonical ctx x, flat_map (canonical ctx) xs, refl, written-spells ctx x (ready.0).writable, written-row xs ready.1)

  pub written-tlvs : (xs : List Attr) → AreReady xs → tlvs_of (flat_map (canonical ctx) xs) ≡ (map (written_tlv ctx) xs, [])
  written-tlvs xs ready = pieces-whole TlvValue IsTlv one_tlv IsTlv-reads (map (written_tlv ctx) xs) (flat_map (canonical ctx) xs) (written-row xs ready)

  pub written-keep : (xs : List Attr) (at : ℕ) (seen : ℕ → Bool) → AreReady xs → NoneTwice seen (map type_of xs)
      → KeepsAll (marks_behind ctx has_nlri seen (placed_from at (map (written_tlv ctx) xs))) xs
  written-keep [] at seen ready fresh = tt
  written-keep (x ∷ xs) at seen ready fresh = (
    cond-false (seen (type_of x)) (repeated (type_of x)) (judgement ctx has_nlri (written_tlv ctx x)) fresh.0
        ∙ written-kept ctx has_nlri x (ready.0).ranges (ready.0).writable (ready.0).in_place,
    written-keep xs (at + length (canonical ctx x)) (also (type_of x) seen) ready.1 fresh.1,
  )

  -- the marks of a field of written attributes keep them all
  pub field-keep : (xs : List Attr) → AreReady xs → NoneTwice none_of_them (map type_of xs) → KeepsAll (field_marks ctx has_nlri (flat_map (canonical ctx) xs)) xs
  unfolding field_marks
  field-keep xs ready fresh =
      let field : List ℕ = flat_map (canonical ctx) xs in
      let marks : List Mark = marks_behind ctx has_nlri none_of_them (placed_from 0 (map (written_tlv ctx) xs)) in
      let from : List TlvValue × List ℕ → List Mark = λ q. marks_behind ctx has_nlri none_of_them (placed_from 0 q.0) ++ cut_mark (length field - length q.1) q.1 in
      let is : from (tlvs_of field) ≡ marks = ap from (written-tlvs xs ready) ∙ append-nil marks in
      subst (λ (ms : List Mark). KeepsAll ms xs) (sym is) (written-keep xs 0 none_of_them ready fresh)

-- ---- distinct types

few-by : (k : ℕ) (seen : ℕ → Bool) (xs ys : List Attr) → OfType k xs → length xs ≤ 1 → seen k ≡ false → NoneTwice (also k seen) (map type_of ys) → NoneTwice seen (map type_of (xs ++ ys))
few-by k seen [] ys of_type few new fresh = fresh-fewer (also k seen) seen (map type_of ys) (λ j e. (or_parts (eqb j k) (seen j) e).1) fresh
few-by k seen (x ∷ []) ys of_type few new fresh =
    subst (λ (j : ℕ). (seen j ≡ false) × NoneTwice (also j seen) (map type_of ys)) (sym of_type.0) (new, fresh)
few-by k seen (x ∷ y ∷ xs) ys of_type few new fresh = absurd (omega arith)

-- at most one attribute of each type, in the order of the types
pub slots-fresh : (slots : ℕ → List Attr) → ((k : ℕ) → OfType k (slots k)) → ((k : ℕ) → length (slots k) ≤ 1) → (ks : List ℕ) (seen : ℕ → Bool) → NoneTwice seen ks → NoneTwice seen (map type_of (flat_map slots ks))
slots-fresh slots of_type few [] seen fresh = tt
slots-fresh slots of_type few (k ∷ ks) seen fresh = few-by k seen (slots k) (flat_map slots ks) (of_type k) (few k) fresh.0 (slots-fresh slots of_type few ks (also k seen) fresh.1)
