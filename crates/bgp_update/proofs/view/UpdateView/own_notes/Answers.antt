use Rattle.std.proofs.Common.{sym, ◌∙◌}
use Rattle.bgp_update.specs.Prelude.{parts_value, view_marks}
use Rattle.bgp_update.proofs.QuietMarks.{no_notes}
use Rattle.bgp_update.proofs.view.UpdateView.own_notes.Goals as goal

pub returns-else-has_notes : goal.returns-else-has_notes
returns-else-has_notes c =
    let view = c.args.self.now in
    c.new.ensures ∙ sym (no_notes (parts_value view.body) (view_marks view) (sym c.has_notes.ensures ∙ c.if-has_notes.false))
