-- Which types a loop over the attributes must look at.
use Rattle.bgp_wire.proofs.Std.{◌≡◌, ℕ, ◌<◌, Bool, true, false, not, eqb, ltb, List, [], length, take, ap, refl, ◌∙◌, arith, flat_map, filter, list_any, both_ways, ltb-true, ltb-false, not-false, not-true}
use Rattle.std.proofs.lemmas.Bool.{lt-ltb, ne_eqb}
use Rattle.bgp_attr.specs.declared.attr.Attr.TheVariants as attr
use Rattle.bgp_attr.specs.declared.opaque.Opaque.{Opaque}
use Rattle.bgp_attr.specs.Prelude.{is_recognised}
use Rattle.bgp_attr.specs.Judgement as judgement
use Rattle.bgp_attr.proofs.Tables.{entry-passes}
use Rattle.bgp_update.specs.declared.attrs.Attrs.{Attrs}
use Rattle.bgp_update.specs.declared.attrs.TheConstants.{RECOGNISED}
use Rattle.bgp_update.specs.Prelude.{present, slot, canonical_order, attr_list}
use Rattle.bgp_update.proofs.Lists.{flat_map-filter, find-none, all-none, all-more, none-all}
use Rattle.bgp_update.proofs.Rising.{of_kind}
use Rattle.bgp_update.proofs.SlotLemmas.{slot-other}

are-recognised : RECOGNISED ≡ filter is_recognised canonical_order
unfolding canonical_order
are-recognised = refl

module _ (a : Attrs) (none : a.others ≡ []) where
  unrecognised : (k : ℕ) → is_recognised k ≡ false → slot a k ≡ []
  unrecognised k other = slot-other a k other ∙ ap (λ (os : List Opaque). present (λ (o : Opaque). attr.Opaque o) (of_kind k os)) none

  -- where no attribute is of a type that isn't recognised
  pub recognised_types : flat_map (slot a) RECOGNISED ≡ attr_list a
  recognised_types = ap (flat_map (slot a)) are-recognised ∙ flat_map-filter (slot a) is_recognised canonical_order unrecognised

pub order_long : length canonical_order ≡ 256
unfolding canonical_order
order_long = refl

-- the first types of the order are those up to 40
are-common : take 41 canonical_order ≡ filter (λ k. not (ltb 40 k)) canonical_order
unfolding canonical_order
are-common = refl

unrecognised-above : (k : ℕ) → 40 < k → is_recognised k ≡ false
unrecognised-above k high = by (is_recognised k) refl
  where
    by : (t : Bool) → is_recognised k ≡ t → t ≡ false
    by true e = absurd (both_ways (ltb 40 k) (not-true (ltb 40 k) (entry-passes (λ j. not (ltb 40 j)) k judgement.recognised refl e)) (lt-ltb 40 k high))
    by false e = refl

module _ (a : Attrs) (low : list_any (λ o. ltb 40 o.kind) a.others ≡ false) where
  none-above : (k : ℕ) → 40 < k → slot a k ≡ []
  none-above k high =
      let differ = all-more (λ (o : Opaque). ltb 40 o.kind ≡ false) (λ (o : Opaque). eqb o.kind k ≡ false) a.others
      (λ (o : Opaque) (e : ltb 40 o.kind ≡ false). ne_eqb o.kind k (λ (same : o.kind ≡ k). absurd (omega (arith, ltb-false 40 o.kind e, high, same))))
      (none-all (λ (o : Opaque). ltb 40 o.kind) a.others low) in
      slot-other a k (unrecognised-above k high)
      ∙ ap (present (λ (o : Opaque). attr.Opaque o)) (find-none (λ (o : Opaque). eqb o.kind k) a.others (all-none (λ (o : Opaque). eqb o.kind k) a.others differ))

  -- where no attribute is of a type above 40
  pub common_types : flat_map (slot a) (take 41 canonical_order) ≡ attr_list a
  common_types =
      ap (flat_map (slot a)) are-common
      ∙ flat_map-filter (slot a) (λ k. not (ltb 40 k)) canonical_order (λ k e. none-above k (ltb-true 40 k (not-false (ltb 40 k) e)))
