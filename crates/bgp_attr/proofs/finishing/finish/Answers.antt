use Rattle.bgp_wire.proofs.Std.{ℕ, ◌+◌, ◌-◌, List, [], ◌∷◌, get_or, refl, ap, arith}
use Rattle.std.proofs.lemmas.List.{length-drop}
use Rattle.bgp_attr.proofs.Heads.{finished_long, finished_short, no_octet_more}
use Rattle.bgp_attr.proofs.Parts.{on_refusal}
use Rattle.bgp_attr.proofs.finishing.finish.Goals as goal

pub returns-in_ok-insert-clause-ok : goal.returns-in_ok-insert-clause-ok
returns-in_ok-insert-clause-ok g c =
    let form = c.args.form in
    let written = g.O.Output.written in
    finished_long form.class form.partial c.flags_octet-flags.result form.kind form.kind c.args.start (c.len.result - (c.args.start + 3)) (get_or c.to_be_bytes.result 0 0) (get_or c.to_be_bytes.result 1 0)
    (written c.args.out.now) (written c.insert.new.self) (written c.replace.new.self) c.requires.room (omega (arith, c.if-len-gt255.true)) (omega (arith, c.len.ensures, length-drop (c.args.start + 3) (written c.args.out.now)))
    c.flags_octet-flags.ensures refl (ap (λ (l : List ℕ). get_or l 0 0 ∷ get_or l 1 0 ∷ []) c.to_be_bytes.ensures) c.in_ok-insert.ensures.ok c.replace.ensures

pub returns-in_err-insert-clause-err : goal.returns-in_err-insert-clause-err
returns-in_err-insert-clause-err g c =
    let form = c.args.form in
    on_refusal c.from_residual.result (c.in_err-insert.ensures.err, no_octet_more form.class form.partial form.kind c.args.start (c.len.result - (c.args.start + 3)) g.O.Output.room (g.O.Output.written c.args.out.now) c.requires.room (omega (arith, c.if-len-gt255.true)) (omega (arith, c.len.ensures, length-drop (c.args.start + 3) (g.O.Output.written c.args.out.now))) c.in_err-insert.ensures.full)

pub returns-else-len-gt255-clause-ok : goal.returns-else-len-gt255-clause-ok
returns-else-len-gt255-clause-ok g c =
    let form = c.args.form in
    finished_short form.class form.partial c.flags_octet-flags-else-len-gt255.result form.kind c.args.start (c.len.result - (c.args.start + 3)) (g.O.Output.written c.args.out.now) (g.O.Output.written c.replace-else-len-gt255.new.self)
    (omega (arith, c.if-len-gt255.false)) (omega (arith, c.len.ensures, length-drop (c.args.start + 3) (g.O.Output.written c.args.out.now))) c.flags_octet-flags-else-len-gt255.ensures c.replace-else-len-gt255.ensures
