use Rattle.ristulva_c.proofs.Below.{◌-◌, length, inr, refl, sym, ap, subst, ◌∙◌, leb-false, parts_of, is_reset, Outcome}
use Rattle.ristulva_c.proofs.batch.take_frame.Goals as goal

pub returns-then-not-fit : goal.returns-then-not-fit
returns-then-not-fit g c =
    let rows = g.B.Batch.rows c.args.at (parts_of c.args.frame.body.now) c.view_frame-outcome.result in
    record {
      same = refl;
      ends = inr (
        refl,
        record {
          goes_on = sym (c.is_reset.ensures ∙ ap is_reset c.view_frame-outcome.ensures) ∙ c.if-is_reset.false;
          rows = rows;
          given = subst (λ (o : Outcome). g.B.Batch.gives c.args.at (parts_of c.args.frame.body.now) o rows) c.view_frame-outcome.ensures (c.fit.ensures.given c.args.at);
          more = leb-false (length rows) (length c.args.list.now - c.args.from) (sym (c.fit.ensures.fit c.args.at) ∙ c.if-not-fit.true);
          few = c.fit.ensures.few c.args.at;
        },
      );
    }

pub returns : goal.returns
returns g c =
    let rows = g.B.Batch.rows c.args.at (parts_of c.args.frame.body.now) c.view_frame-outcome.result in
    record {
      whole = refl;
      goes_on = sym (c.is_reset.ensures ∙ ap is_reset c.view_frame-outcome.ensures) ∙ c.if-is_reset.false;
      rows = rows;
      given = subst (λ (o : Outcome). g.B.Batch.gives c.args.at (parts_of c.args.frame.body.now) o rows) c.view_frame-outcome.ensures (c.fit.ensures.given c.args.at);
      adds = c.put.ensures;
    }
