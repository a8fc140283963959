-- The first attribute that calls for a reset or a withdrawal, attribute by attribute.
use Rattle.bgp_fields.proofs.Prelude.{◌≡◌, ℕ, ◌+◌, ◌-◌, ◌≤◌, Bool, true, false, cond, List, ◌∷◌, ◌++◌, length, Some, sym, ap, ap₂, ◌∙◌}
use Rattle.bgp_fields.proofs.Prelude.{list_all, also, Context, judgement, PlacedTlv, Mark, repeated, marks_behind, cut_mark, is_small, both_small}
use Rattle.bgp_fields.proofs.Prelude.{asks_for, first_asking}

module _ (resets : Bool) (ctx : Context) (nlri : Bool) where
  -- an attribute calls for it, after others of these types
  abbrev pub asks : (ℕ → Bool) → PlacedTlv → Bool
  asks seen p = asks_for resets (cond (seen p.tlv.kind) (repeated p.tlv.kind) (judgement ctx nlri p.tlv))

  pub asking-here : (seen : ℕ → Bool) (qs : List PlacedTlv) (p : PlacedTlv) (ps : List PlacedTlv) (tail : List Mark) → qs ≡ p ∷ ps → asks seen p ≡ true
      → first_asking resets (marks_behind ctx nlri seen qs ++ tail) ≡ Some p.at
  asking-here seen qs p ps tail e is =
      ap (λ (x : List PlacedTlv). first_asking resets (marks_behind ctx nlri seen x ++ tail)) e
      ∙ ap (λ (t : Bool). cond t (Some p.at) (first_asking resets (marks_behind ctx nlri (also p.tlv.kind seen) ps ++ tail))) is

  pub asking-later : (seen other : ℕ → Bool) (qs : List PlacedTlv) (p : PlacedTlv) (ps : List PlacedTlv) (place : ℕ) (old new : List ℕ) → qs ≡ p ∷ ps → asks seen p ≡ false
      → other ≡ also p.tlv.kind seen → old ≡ new
      → first_asking resets (marks_behind ctx nlri other ps ++ cut_mark (place - length new) new) ≡ first_asking resets (marks_behind ctx nlri seen qs ++ cut_mark (place - length old) old)
  asking-later seen other qs p ps place old new e not seen_is same =
      let tail = cut_mark (place - length old) old in
      ap₂ (λ (x : ℕ → Bool) (r : List ℕ). first_asking resets (marks_behind ctx nlri x ps ++ cut_mark (place - length r) r)) seen_is (sym same)
      ∙ sym (ap (λ (t : Bool). cond t (Some p.at) (first_asking resets (marks_behind ctx nlri (also p.tlv.kind seen) ps ++ tail))) not)
      ∙ ap (λ (x : List PlacedTlv). first_asking resets (marks_behind ctx nlri seen x ++ tail)) (sym e)

pub first-small : (qs : List PlacedTlv) (p : PlacedTlv) (ps : List PlacedTlv) → qs ≡ p ∷ ps → list_all is_small qs ≡ true
    → (p.at + length p.tlv.whole ≤ 4075) × (list_all is_small ps ≡ true)
first-small qs p ps e small = both_small p ps (sym (ap (list_all is_small) e) ∙ small)
