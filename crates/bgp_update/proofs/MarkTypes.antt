-- The types seen, mark by mark.
use Rattle.bgp_wire.proofs.Std.{◌≡◌, ℕ, Bool, true, false, ◌||◌, cond, eqb, List, ◌∷◌, refl, sym, ap, ◌∙◌, list_any}
use Rattle.std.proofs.lemmas.Bool.{eqb-true}
use Rattle.bgp_attr.specs.Prelude.{PlacedTlv}
use Rattle.bgp_wire.specs.Prelude.{also}
use Rattle.bgp_update.proofs.Lists.{eqb-swap}

pub or_past : (a b c : Bool) → ((a || b) || c) ≡ (b || (a || c))
or_past true true c = refl
or_past true false c = refl
or_past false true c = refl
or_past false false c = refl

abbrev has_kind : ℕ → List PlacedTlv → Bool
has_kind kind ps = list_any (λ p. eqb p.tlv.kind kind) ps

-- the type of the next attribute counts as seen, no longer as ahead
pub types_step : (seen now : ℕ → Bool) (p : PlacedTlv) (left later : List PlacedTlv) (types : ℕ → Bool)
    → now ≡ also p.tlv.kind seen → left ≡ p ∷ later
    → ((kind : ℕ) → (seen kind || has_kind kind left) ≡ types kind)
    → (kind : ℕ) → (now kind || has_kind kind later) ≡ types kind
types_step seen now p left later types is_now is_left has kind =
    ap (λ (s : ℕ → Bool). s kind || has_kind kind later) is_now
    ∙ ap (λ (b : Bool). (b || seen kind) || has_kind kind later) (eqb-swap kind p.tlv.kind)
    ∙ or_past (eqb p.tlv.kind kind) (seen kind) (has_kind kind later)
    ∙ ap (λ (ps : List PlacedTlv). seen kind || has_kind kind ps) (sym is_left)
    ∙ has kind

-- one more of either sort, where types are of two sorts
module _ (is : ℕ → Bool) where
  abbrev pub joined : (ℕ → Bool) → (ℕ → Bool) → ℕ → Bool
  joined a b = λ k. cond (is k) (a k) (b k)

  module _ (these others : ℕ → Bool) (kind : ℕ) where
    -- a type of the other sort differs
    apart : (b : Bool) → is kind ≡ b → (k : ℕ) (c : Bool) → is k ≡ c → (set : ℕ → Bool) → (b ≡ c → ⊥) → set k ≡ also kind set k
    apart b e k c f set differ = by (eqb k kind) refl
      where
        by : (t : Bool) → eqb k kind ≡ t → set k ≡ (t || set k)
        by true same = absurd (differ (sym e ∙ ap is (sym (eqb-true k kind same)) ∙ f))
        by false same = refl

    pub also_these : is kind ≡ true → joined (also kind these) others ≡ also kind (joined these others)
    also_these e = λ i k. by k (is k) refl i
      where
        by : (k : ℕ) (c : Bool) → is k ≡ c → cond c (also kind these k) (others k) ≡ also kind (λ j. cond c (these j) (others j)) k
        by k true f = refl
        by k false f = apart true e k false f others (λ g. cc)

    pub also_others : is kind ≡ false → joined these (also kind others) ≡ also kind (joined these others)
    also_others e = λ i k. by k (is k) refl i
      where
        by : (k : ℕ) (c : Bool) → is k ≡ c → cond c (these k) (also kind others k) ≡ also kind (λ j. cond c (these j) (others j)) k
        by k true f = apart false e k true f these (λ g. cc)
        by k false f = refl
