use Rattle.bgp_wire.proofs.Std.{[], sym, ◌∙◌, on_err_weaker}
use Rattle.std.proofs.lemmas.List.{append-nil}
use Rattle.bgp_update.proofs.body_writing.put_attribute.Goals as goal

pub returns-in-Some-clause-err : goal.returns-in-Some-clause-err
returns-in-Some-clause-err g c = on_err_weaker c.write_attr_view.result (λ e. ([], e ∙ sym (append-nil (g.O.Output.written c.args.out.now)))) c.write_attr_view.ensures.err
