use Rattle.std.proofs.Common.{[], ◌∷◌, ◌++◌, ap, ◌∙◌}
use Rattle.ristulva_c.specs.declared.notes.ToldNote.{ToldNote}
use Rattle.ristulva_c.specs.Prelude.{listed}
use Rattle.ristulva_c.proofs.NoteSteps.{put_one, put_none}
use Rattle.ristulva_c.proofs.notes.put_note.Goals as goal

pub returns-then-count-list : goal.returns-then-count-list
returns-then-count-list c = λ before places counted is.
    put_one c.args.list.now before places c.args.count c.note_told.result counted is c.if-count-list.true
    ∙ ap (λ (n : ToldNote). listed (before ++ n ∷ []) places) c.note_told.ensures

pub returns-else-count-list : goal.returns-else-count-list
returns-else-count-list c = λ before places counted is. put_none c.args.list.now before places c.args.count _ counted is c.if-count-list.false
