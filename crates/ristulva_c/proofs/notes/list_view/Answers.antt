use Rattle.ristulva_c.proofs.Below.{arith, notes_left, notes_value}
use Rattle.ristulva_c.proofs.NoteCounts.{few_notes}
use Rattle.ristulva_c.proofs.NoteSteps.{one_more, few_so_far}
use Rattle.ristulva_c.proofs.notes.list_view.Goals as goal

pub overflow_add-count : goal.overflow_add-count
overflow_add-count c =
    let view = c.args.view.now in
    omega (arith, few_so_far (notes_value view) (notes_left c.notes.left) c.notes.count c.notes.list c.args.list.now c.notes.invariant (few_notes view))

pub notes-preserved : goal.notes-preserved
notes-preserved c =
    let view = c.args.view.now in
    one_more (notes_value view) (notes_left c.notes.left) (notes_left c.next.new.self) c.notes.count c.notes.list c.put_note.new.list c.args.list.now c.in-Some.note c.notes.invariant c.in-Some.ensures.steps c.put_note.ensures

pub returns-clause-few : goal.returns-clause-few
returns-clause-few c =
    let view = c.args.view.now in
    omega (arith, few_so_far (notes_value view) (notes_left c.notes.left) c.notes.count c.notes.list c.args.list.now c.notes.invariant (few_notes view))
