-- The slots of a message's attributes: each holds the first that was kept of its type.
use Rattle.bgp_wire.proofs.Std.{◌≡◌, ℕ, ◌-◌, ◌<◌, ◌≤◌, true, false, not, List, [], ◌++◌, length, refl, ap, subst, sym, ◌∙◌, arith, flat_map, list_any, AllByRecursion, or_parts, not-false}
use Rattle.std.proofs.lemmas.List.{length-append}
use Rattle.bgp_wire.specs.Prelude.{AreOctets, none_of_them, Splits}
use Rattle.bgp_wire.proofs.OctetLemmas.{AreOctets-front}
use Rattle.bgp_wire.proofs.Pieces.{Splits-pieces}
use Rattle.bgp_open.specs.declared.context.Context.{Context}
use Rattle.bgp_attr.specs.declared.attr.Attr.{Attr}
use Rattle.bgp_attr.specs.declared.opaque.Opaque.{Opaque}
use Rattle.bgp_attr.specs.Prelude.{is_recognised, TlvValue, IsTlv, one_tlv, tlvs_of, canonical, is_misnamed, HasRanges}
use Rattle.bgp_attr.proofs.Readers.{IsTlv-reads}
use Rattle.bgp_attr.proofs.TestRows.{Writes, writable-Writes}
use Rattle.bgp_update.specs.Prelude.{as_opaque, has_bad_others, attr_list, Parts, Mark, marks_behind, cut_mark, placed_tlvs, field_marks, marks_of, slot, canonical_order, kept_of, attrs_of, attributes_octets, rise}
use Rattle.bgp_update.specs.Parts.{has_nlri}
use Rattle.bgp_update.proofs.Lists.{all-more}
use Rattle.bgp_update.proofs.TypeLemmas.{order-fresh, first_of_type, Named}
use Rattle.bgp_update.proofs.MarkLemmas.{IsReady}
use Rattle.bgp_update.proofs.KeptSlots.{opaques-all, others_of-kept, kept-list, kept-all, slot-kept, kept-others}
use Rattle.bgp_update.proofs.Rising.{rising-all}
use Rattle.bgp_update.proofs.TakenLength.{firsts-shorter}
use Rattle.bgp_update.proofs.KeptMarks.{with_cut-kept, IsKept, row-kept}

-- ---- what is kept of a message

module _ (ctx : Context) (p : Parts) (octets : AreOctets p.attributes) where
  abbrev pub whole : List Mark
  whole = marks_behind ctx (has_nlri p) none_of_them (placed_tlvs p.attributes)

  abbrev pub at_end : ℕ
  at_end = length p.attributes - length (tlvs_of p.attributes).1

  pub marks-are : marks_of ctx p ≡ whole ++ cut_mark at_end (tlvs_of p.attributes).1
  unfolding field_marks
  marks-are = refl

  abbrev pub kept : List Attr
  kept = kept_of (marks_of ctx p)

  pub kept-is : kept ≡ kept_of whole
  kept-is = ap kept_of marks-are ∙ with_cut-kept whole at_end (tlvs_of p.attributes).1

  pub splits : Splits IsTlv p.attributes (tlvs_of p.attributes).0 (tlvs_of p.attributes).1
  splits = Splits-pieces TlvValue IsTlv one_tlv IsTlv-reads p.attributes

  pub is-kept : IsKept ctx (has_nlri p) none_of_them kept (length splits.row)
  is-kept =
      subst (λ (xs : List Attr). IsKept ctx (has_nlri p) none_of_them xs (length splits.row)) (sym kept-is)
      (row-kept ctx (has_nlri p) (tlvs_of p.attributes).0 splits.row 0 none_of_them splits.spelled (AreOctets-front splits.row (tlvs_of p.attributes).1 (subst AreOctets splits.whole octets)))

  -- what holds of each attribute that can be written
  pub each-kept : (P : Attr → Type 0) → ((x : Attr) → IsReady ctx (has_nlri p) x → P x) → AllByRecursion P kept
  each-kept P so = all-more (IsReady ctx (has_nlri p)) P kept so is-kept.ready

  pub named : Named kept
  named = each-kept (λ x. is_misnamed x ≡ false) (λ x r. (let w : Writes ctx x = writable-Writes ctx x r.writable in w.named))

  -- holds of each in the slots
  pub each-slot : (P : Attr → Type 0) → ((x : Attr) → IsReady ctx (has_nlri p) x → P x) → AllByRecursion P (attr_list (attrs_of kept))
  each-slot P so = kept-all kept named is-kept.fresh P (each-kept P so)

  pub slots-hold : (kind : ℕ) → slot (attrs_of kept) kind ≡ first_of_type kind kept
  slots-hold = slot-kept kept named is-kept.fresh

  pub others-good : has_bad_others (attrs_of kept).others ≡ false
  others-good = kept-others kept named is-kept.fresh

  pub others-rise : rise (attrs_of kept).others ≡ true
  others-rise =
      let os : List Opaque = (attrs_of kept).others in
      not-false (rise os) (or_parts (not (rise os)) (list_any (λ o. is_recognised o.kind) os) others-good).0

  pub others-small : AllByRecursion (λ o. o.kind < 256) (attrs_of kept).others
  others-small =
      subst (λ (os : List Opaque). AllByRecursion (λ o. o.kind < 256) os) (sym (others_of-kept kept))
      (rising-all (λ o. o.kind < 256) (flat_map as_opaque kept) [] tt (opaques-all HasRanges (λ o. o.kind < 256) (λ o r. r.0) kept (each-kept HasRanges (λ x r. r.ranges))))

  -- they are written in no more octets
  pub attributes-shorter : length (attributes_octets ctx (attrs_of kept)) ≤ length p.attributes
  attributes-shorter =
      let firsts : List Attr = flat_map (λ k. first_of_type k kept) canonical_order in
      let is : length (attributes_octets ctx (attrs_of kept)) ≡ length (flat_map (canonical ctx) firsts) =
      ap (λ (xs : List Attr). length (flat_map (canonical ctx) xs)) (kept-list kept named is-kept.fresh) in
      let fewer : length (flat_map (canonical ctx) firsts) ≤ length (flat_map (canonical ctx) kept) = firsts-shorter (canonical ctx) kept canonical_order none_of_them order-fresh in
      let row : length (flat_map (canonical ctx) kept) ≤ length splits.row = is-kept.shorter in
      omega (arith, ap length splits.whole, length-append splits.row (tlvs_of p.attributes).1)
