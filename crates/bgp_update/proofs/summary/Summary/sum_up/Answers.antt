use Rattle.bgp_wire.proofs.Std.{◌≡◌, ◌≤◌, subst, arith, ℕ, Bool, true, ◌||◌, cond, eqb, List, ◌∷◌, length, refl, sym, ap, ap₂, ◌∙◌, list_any, list_all}
use Rattle.std.specs.Prelude.{◌-◌}
use Rattle.std.specs.Borrow.{Bor}
use Rattle.std.proofs.Math.Bool.{or-false}
use Rattle.bgp_attr.specs.Prelude.{PlacedTlv, placed_tlv, rest_left, TlvValue, tlv_at, tlv_value, tlvs_left}
use Rattle.bgp_open.specs.declared.context.Context.{Context}
use Rattle.bgp_wire.specs.Prelude.{also, has_octet, none_of_them}
use Rattle.bgp_wire.specs.declared.octet_set.OctetSet.{OctetSet}
use Rattle.bgp_attr.specs.declared.tlv_iter.TlvIter.{TlvIter}
use Rattle.bgp_update.specs.Summary.{Adds}
use Rattle.bgp_update.specs.declared.summary.Summary.{Summary}
use Rattle.bgp_update.specs.declared.kept_view.KeptView.{KeptView}
use Rattle.bgp_update.specs.Prelude.{AreOf, Mark, cut_mark, field_marks, is_small, judged_behind, kept_of, marks_ahead, saw, seen_by, SummaryValue, summary_value, summary_behind, summary_of, types_of_field}
use Rattle.bgp_update.proofs.KeptViews.{kept_known}
use Rattle.bgp_update.proofs.MarkTypes.{types_step}
use Rattle.bgp_update.proofs.SmallLemmas.{both_small, field_small}
use Rattle.bgp_update.proofs.Summaries.{ahead_none, ahead_step, whole_ahead, none_yet, summary_step, summary_whole}
use Rattle.bgp_update.proofs.summary.Summary.sum_up.Goals as goal

pub field-init : goal.field-init
field-init c =
    let ctx = c.args.ctx.now in
    let nlri = c.args.has_nlri in
    let field = c.args.field.now in
    let unseen : seen_by c.new.result.kept c.new-others.result ≡ none_of_them = none_yet c.new.result.kept c.new-others.result c.new.ensures.seen c.new-others.ensures in (
      ap₂ summary_behind c.new.ensures.value (whole_ahead ctx nlri field (seen_by c.new.result.kept c.new-others.result) c.new-tlvs.result unseen c.new-tlvs.ensures.attributes c.new-tlvs.ensures.rest)
          ∙ summary_whole (field_marks ctx nlri field),
      λ kind. ap₂ (λ (seen : ℕ → Bool) (ps : List PlacedTlv). seen kind || list_any (λ p. eqb p.tlv.kind kind) ps) unseen c.new-tlvs.ensures.attributes,
      ap (list_all is_small) c.new-tlvs.ensures.attributes ∙ field_small field c.requires,
      c.new-tlvs.ensures.field,
      c.new.ensures.of,
    )

-- one more attribute, however it was judged
module _ (ctx : Context) (nlri : Bool) (field : List ℕ) (s t : Summary) (others later : OctetSet) (it after : TlvIter) (p : PlacedTlv) where
  abbrev Walked : Summary → OctetSet → TlvIter → Type 0
  Walked u types tlvs =
      (summary_behind (summary_value u) (marks_ahead ctx nlri field (seen_by u.kept types) tlvs) ≡ summary_of (field_marks ctx nlri field))
      × ((kind : ℕ) → (seen_by u.kept types kind || list_any (λ q. eqb q.tlv.kind kind) (tlvs_left tlvs)) ≡ types_of_field field kind)
      × (list_all is_small (tlvs_left tlvs) ≡ true)
      × (tlvs.field.now ≡ field)
      × AreOf u.kept ctx nlri field

  one_more : tlvs_left it ≡ p ∷ tlvs_left after → rest_left it ≡ rest_left after → after.field ≡ it.field → Walked s others it
      → Adds s (judged_behind ctx nlri (seen_by s.kept others) p.tlv) t → seen_by t.kept later ≡ also p.tlv.kind (seen_by s.kept others) → AreOf t.kept ctx nlri field
      → Walked t later after
  one_more tlvs rest stays walked adds seen of =
      let mark : Mark = record { at = p.at; kind = p.tlv.kind; judged = judged_behind ctx nlri (seen_by s.kept others) p.tlv } in (
        summary_step (summary_value s) (summary_value t) (summary_of (field_marks ctx nlri field)) mark (marks_ahead ctx nlri field (seen_by s.kept others) it)
            (marks_ahead ctx nlri field (seen_by t.kept later) after) (adds mark refl) (ahead_step ctx nlri field (seen_by s.kept others) (seen_by t.kept later) p it after tlvs rest seen) walked.0,
        types_step (seen_by s.kept others) (seen_by t.kept later) p (tlvs_left it) (tlvs_left after) (types_of_field field) seen tlvs walked.1,
        (both_small p (tlvs_left after) (ap (list_all is_small) (sym tlvs) ∙ walked.2)).1,
        ap (λ (octets : Bor (List ℕ)). octets.now) stays ∙ walked.3,
        of,
      )

pub add-requires : goal.add-requires
add-requires c =
    let step = c.in-Some.ensures.steps in
    let walked = c.field.invariant in
    let of = walked.4 in
    let small = (both_small (placed_tlv c.in-Some.tlv) (tlvs_left c.next.new.self) (ap (list_all is_small) (sym step.0) ∙ walked.2)).0 in
    record {
      there = ap (λ (octets : List ℕ). tlv_at octets c.in-Some.tlv.at) (of.2 ∙ sym walked.3) ∙ step.2.1;
      small = (omega (arith, small), omega (arith, small));
      short = subst (λ (octets : List ℕ). length octets ≤ 4075) (sym of.2) c.requires;
    }

pub field-preserved : goal.field-preserved
field-preserved c =
    let t : TlvValue = tlv_value c.in-Some.tlv in
    let step = c.in-Some.ensures.steps in
    let walked = c.field.invariant in
    let of = walked.4 in
    let seen = seen_by c.field.self.kept c.field.others in
    let same : judged_behind c.args.ctx.now c.args.has_nlri seen t ≡ judged_behind c.field.self.kept.ctx c.field.self.kept.has_nlri seen t =
    ap₂ (λ (x : Context) (n : Bool). judged_behind x n seen t) (sym of.0) (sym of.1) in
    one_more c.args.ctx.now c.args.has_nlri c.args.field.now c.field.self c.add.new.self c.field.others c.add.new.others c.field.tlvs c.next.new.self (placed_tlv c.in-Some.tlv)
    step.0 step.1 step.2.0 walked (λ m e. c.add.ensures.adds m (e ∙ same)) c.add.ensures.seen
    (c.add.ensures.of.0 ∙ of.0, c.add.ensures.of.1 ∙ of.1, c.add.ensures.of.2 ∙ of.2)

pub returns : goal.returns
returns c =
    let field = c.args.field.now in
    let marks = field_marks c.args.ctx.now c.args.has_nlri field in
    let k = c.field.self.kept in
    let left = c.in_default.ensures.steps in
    let cut = ap (λ (rest : List ℕ). cut_mark (length field - length rest) rest) in
    let whole : summary_value c.add_tail.new.self ≡ summary_of marks =
    c.add_tail.ensures.adds (rest_left c.next.new.self) (length field - length (rest_left c.next.new.self)) c.tail.ensures
    ∙ ap (summary_behind (summary_value c.field.self)) (sym (cut left.1) ∙ sym (ahead_none c.args.ctx.now c.args.has_nlri field (seen_by k c.field.others) c.field.tlvs left.0.0))
    ∙ c.field.invariant.0 in
    record {
      marks = whole;
      known = kept_known c.add_tail.new.self.kept (kept_of marks) (ap (λ (s : SummaryValue). s.kept) whole);
      types = λ kind known.
          ap (λ (kept : KeptView). saw kept kind) c.add_tail.ensures.same
          ∙ sym (ap (λ (b : Bool). cond b (saw k kind) (has_octet c.field.others kind)) known)
          ∙ sym (or-false (seen_by k c.field.others kind))
          ∙ ap (λ (ps : List PlacedTlv). seen_by k c.field.others kind || list_any (λ q. eqb q.tlv.kind kind) ps) (sym left.0.0)
          ∙ c.field.invariant.1 kind;
    }
