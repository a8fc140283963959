-- What is valid isn't refused as not valid.
use Rattle.bgp_machine.proofs.Prelude.{Err, sym, ap, ◌∙◌}
use Rattle.std.proofs.lemmas.Option.{none-some}
use Rattle.bgp_machine.proofs.sending.put.Goals as goal

pub returns-in-Err-NotValid-clause-fault : goal.returns-in-Err-NotValid-clause-fault
returns-in-Err-NotValid-clause-fault c =
    let why = c.in-Err-NotValid.why in
    none-some why (sym c.requires ∙ (c.in-Err-NotValid.ensures.not_valid why).0 (ap Err c.in-Err-NotValid.field-0-is))
