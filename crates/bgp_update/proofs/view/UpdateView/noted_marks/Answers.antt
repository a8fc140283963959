use Rattle.bgp_wire.proofs.Std.{false, sym, ap, ◌∙◌, flat_map}
use Rattle.bgp_update.specs.Prelude.{mark_notes, view_marks}
use Rattle.bgp_update.proofs.QuietMarks.{quiet_marks, no_marks}
use Rattle.bgp_update.proofs.view.UpdateView.noted_marks.Goals as goal

pub returns-else-self : goal.returns-else-self
returns-else-self c at =
    let view = c.args.self.now in
    ap (flat_map (mark_notes at)) (c.new.ensures ∙ no_marks view.ctx false)
    ∙ sym (quiet_marks at (view_marks view) (sym view.noted ∙ c.if-self.false))
