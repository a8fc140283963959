use Rattle.std.proofs.Common.{[], ◌∷◌, sym, ap, ◌∙◌}
use Rattle.bgp_attr.specs.Prelude.{type_row, tlv_value, TlvValue}
use Rattle.bgp_update.specs.declared.kept_view.KeptView.{KeptView}
use Rattle.bgp_update.specs.Prelude.{Kept, saw, summary_behind, summary_value}
use Rattle.bgp_update.proofs.summary.Summary.add_first.Goals as goal

pub returns-in_default : goal.returns-in_default
returns-in_default c =
    let k = c.args.self.now.kept in
    let t : TlvValue = tlv_value c.args.tlv.now in
    let a = (type_row k.ctx k.has_nlri t).value in
    let same = c.refuse.ensures.of in
    record {
      adds = λ m is.
          c.refuse.ensures.adds a m (is ∙ sym (c.requires.rules a))
          ∙ ap (λ (kept : Kept). summary_behind (record (summary_value c.args.self.now) { kept = kept }) (m ∷ [])) c.pass.ensures.same;
      seen = ap saw same ∙ c.pass.ensures.seen;
      of = (ap (λ (k : KeptView). k.ctx) same ∙ c.pass.ensures.of.0, ap (λ (k : KeptView). k.has_nlri) same ∙ c.pass.ensures.of.1, ap (λ (k : KeptView). k.field.now) same ∙ c.pass.ensures.of.2);
    }
