use Rattle.std.proofs.Common.{◌≡◌, Bool, sym, ap, ◌∙◌}
use Rattle.std.specs.Prelude.{if◌then◌else◌}
use Rattle.bgp_attr.specs.declared.attr.Attr.{Attr}
use Rattle.bgp_attr.specs.declared.judged.Judged.TheVariants as judged
use Rattle.bgp_attr.specs.declared.ruling.Ruling.{Ruling}
use Rattle.bgp_attr.specs.Prelude.{decided, judgement, ruled, tlv_value, type_row, AttributeType, TlvValue}
use Rattle.bgp_attr.proofs.TestRows.{row-other}
use Rattle.bgp_update.specs.declared.kept_view.KeptView.{KeptView}
use Rattle.bgp_update.specs.Prelude.{Kept, kept_tlv, repeated, saw, SummaryValue, summary_value}
use Rattle.bgp_update.proofs.Placed.{other_more}
use Rattle.bgp_update.proofs.Summaries.{kept_mark}
use Rattle.bgp_update.proofs.summary.Summary.add_other.Goals as goal

pub returns-then-is_repeated-clause-adds : goal.returns-then-is_repeated-clause-adds
returns-then-is_repeated-clause-adds c m is =
    let k = c.args.self.now.kept in
    let t : TlvValue = tlv_value c.args.tlv.now in
    let a : Attr = (type_row k.ctx k.has_nlri t).value in
    c.refuse.ensures.adds a m
    (is ∙ ap (λ (b : Bool). if b then repeated t.kind else judgement k.ctx k.has_nlri t) (sym c.contains-is_repeated.ensures ∙ c.if-is_repeated.true) ∙ sym (c.repeated.ensures.value t.whole a))

pub returns-in-Keep-clause-adds : goal.returns-in-Keep-clause-adds
returns-in-Keep-clause-adds c m is =
    let k = c.args.self.now.kept in
    let t : TlvValue = tlv_value c.args.tlv.now in
    let a : Attr = (type_row k.ctx k.has_nlri t).value in
    let keeps : m.judged ≡ judged.Keep a =
    is ∙ ap (λ (b : Bool). if b then repeated t.kind else judgement k.ctx k.has_nlri t) (sym c.contains-is_repeated.ensures ∙ c.if-is_repeated.false)
    ∙ ap (λ (type : AttributeType). decided type.tests a) (row-other k.ctx k.has_nlri t c.requires.other)
    ∙ sym (c.rule_other.ensures a) ∙ ap (λ (r : Ruling). ruled r t.whole a) c.in-Keep.is in
    ap (λ (kept : Kept). (let s : SummaryValue = record (summary_value c.args.self.now) { kept = kept } in s)) (other_more k.ctx k.has_nlri t (kept_tlv k) k.others c.requires.other)
    ∙ kept_mark (summary_value c.args.self.now) m a keeps

pub returns-in_default : goal.returns-in_default
returns-in_default c =
    let k = c.args.self.now.kept in
    let t : TlvValue = tlv_value c.args.tlv.now in
    let a : Attr = (type_row k.ctx k.has_nlri t).value in
    let same = c.refuse-in_default.ensures.of in
    record {
      adds = λ m is.
          c.refuse-in_default.ensures.adds a m
          (is ∙ ap (λ (b : Bool). if b then repeated t.kind else judgement k.ctx k.has_nlri t) (sym c.contains-is_repeated.ensures ∙ c.if-is_repeated.false)
          ∙ ap (λ (type : AttributeType). decided type.tests a) (row-other k.ctx k.has_nlri t c.requires.other) ∙ sym (c.rule_other.ensures a));
      seen = c.insert.ensures;
      same = ap saw same;
      of = (ap (λ (k : KeptView). k.ctx) same, ap (λ (k : KeptView). k.has_nlri) same, ap (λ (k : KeptView). k.field.now) same);
    }
