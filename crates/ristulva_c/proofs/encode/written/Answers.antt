use Rattle.ristulva_c.proofs.Below.{ap, ◌∙◌, ℕ, List, Option, Some, Result, Err, WriteFault}
use Rattle.ristulva_c.proofs.Encodings.{writes_all, writes_nothing}
use Rattle.ristulva_c.proofs.encode.written.Goals as goal

abbrev fails : WriteFault → Result (Unit {0}) WriteFault
fails f = Err f

abbrev some : Option (List ℕ) → Option (Option (List ℕ))
some x = Some x

pub returns-in-Ok : goal.returns-in-Ok
returns-in-Ok c =
    let is = c.in-Ok.is in
    ap some (writes_all c.args.ctx.now c.args.update.now _ c.encode_update.new.out.items c.new-octets.ensures.items (λ why bad. let e = (c.encode_update.ensures.not_valid why).1 bad in cc) (λ long. let e = c.encode_update.ensures.too_long.1 long in cc) c.in-Ok.ensures.ok)

pub returns-in-Err-NotValid : goal.returns-in-Err-NotValid
returns-in-Err-NotValid c =
    ap some (writes_nothing c.args.ctx.now c.args.update.now c.in-Err-NotValid._why
    ((c.encode_update.ensures.not_valid c.in-Err-NotValid._why).0 (c.in-Err-NotValid.is ∙ ap (λ (f : WriteFault). fails f) c.in-Err-NotValid.field-0-is)))
