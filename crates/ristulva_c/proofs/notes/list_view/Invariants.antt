use Rattle.bgp_update.specs.Prelude.{notes_left, notes_value}
use Rattle.ristulva_c.proofs.NoteSteps.{IsSoFar}
use Rattle.ristulva_c.proofs.notes.list_view.Given as goal

abbrev pub invariant-notes : goal.invariant-notes
invariant-notes l = IsSoFar (notes_value l.view) (notes_left l.left) l.count l.list l.fn.list
