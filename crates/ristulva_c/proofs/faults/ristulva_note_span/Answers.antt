use Rattle.ristulva_c.proofs.NotePlaces.{noted_is}
use Rattle.ristulva_c.proofs.faults.ristulva_note_span.Goals as goal

pub returns-in-Frame-clause-notes : goal.returns-in-Frame-clause-notes
returns-in-Frame-clause-notes c = λ n message. noted_is message n

pub returns-in-Fault-clause-notes : goal.returns-in-Fault-clause-notes
returns-in-Fault-clause-notes c = λ n message. noted_is message n
