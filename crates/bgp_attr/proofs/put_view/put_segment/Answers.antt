use Rattle.bgp_wire.proofs.Std.{ℕ, [], ◌∷◌, ◌++◌, refl, ap₂, ◌∙◌, on_ok_weaker, on_err_weaker, sym, arith}
use Rattle.bgp_attr.specs.Prelude.{as_numbers_left, segment_octets, segment_value}
use Rattle.bgp_attr.proofs.Parts.{on_refusal, part_refused}
use Rattle.std.proofs.lemmas.List.{append-nil}
use Rattle.bgp_attr.proofs.Writes.{segment_written, segment_fits}
use Rattle.bgp_attr.proofs.put_view.put_segment.Goals as goal

pub returns-clause-ok : goal.returns-clause-ok
returns-clause-ok g c =
    let head = c.in_ok-put.ensures.ok ∙ ap₂ (λ (code count : ℕ). g.O.Output.written c.args.out.now ++ code ∷ count ∷ []) c.segment_code.ensures c.left-count.ensures in
    on_ok_weaker c.put_as_numbers.result
    (segment_written c.args.wide (segment_value c.args.segment) (as_numbers_left c.args.segment.numbers) (g.O.Output.written c.args.out.now) (g.O.Output.written c.put.new.self) (g.O.Output.written c.put_as_numbers.new.out) refl head)
    c.put_as_numbers.ensures.ok

pub returns-clause-err : goal.returns-clause-err
returns-clause-err g c =
    on_err_weaker c.put_as_numbers.result (part_refused g.O.Output.room (g.O.Output.written c.args.out.now) _ _ (segment_octets c.args.wide (segment_value c.args.segment)) _ (g.O.Output.written c.put_as_numbers.new.out)
    (segment_fits c.args.wide (segment_value c.args.segment)) c.in_ok-put.ensures.ok) c.put_as_numbers.ensures.err

pub returns-in_err-put-clause-err : goal.returns-in_err-put-clause-err
returns-in_err-put-clause-err g c =
    on_refusal c.from_residual.result (([], c.in_err-put.ensures.err ∙ sym (append-nil (g.O.Output.written c.args.out.now))), omega (arith, c.in_err-put.ensures.full, segment_fits c.args.wide (segment_value c.args.segment)))
