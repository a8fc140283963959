use Rattle.bgp_wire.proofs.Std.{ℕ, List, [], ◌∷◌, ◌++◌, ◌+◌, ◌≤◌, length, sym, ap₂, ◌∙◌, flat_map, subst, AllByRecursion, on_ok_weaker, on_err_weaker, arith}
use Rattle.bgp_prefix.specs.declared.as_number.AsNumber.{AsNumber}
use Rattle.bgp_attr.specs.Prelude.{number_octets, segment_octets, IsFourOctets}
use Rattle.bgp_attr.proofs.Parts.{on_refusal, part_refused}
use Rattle.std.proofs.lemmas.List.{append-nil}
use Rattle.bgp_attr.proofs.Writes.{segment_written, segment_fits}
use Rattle.bgp_attr.proofs.put.put_segment.Goals as goal

pub returns-clause-ok : goal.returns-clause-ok
returns-clause-ok g c =
    let written = g.O.Output.written in
    let head = c.in_ok-put.ensures.ok ∙ ap₂ (λ (code count : ℕ). written c.args.out.now ++ code ∷ count ∷ []) c.segment_code.ensures c.len-count.ensures in
    on_ok_weaker c.put_as_numbers.result (λ p. (
      segment_written c.args.wide c.args.segment.now c.deref.result.now (written c.args.out.now) (written c.put.new.self) (written c.put_as_numbers.new.out) c.deref.ensures head p.0,
      subst (AllByRecursion (λ (n : AsNumber). IsFourOctets n.0)) c.deref.ensures p.1,
    )) c.put_as_numbers.ensures.ok

pub returns-clause-err : goal.returns-clause-err
returns-clause-err g c =
    let written = g.O.Output.written in
    let fits = subst (λ (ns : List AsNumber). 2 + length (flat_map (λ (n : AsNumber). number_octets c.args.wide n.0) ns) ≤ length (segment_octets c.args.wide c.args.segment.now)) (sym c.deref.ensures) (segment_fits c.args.wide c.args.segment.now) in
    on_err_weaker c.put_as_numbers.result (part_refused g.O.Output.room (written c.args.out.now) _ _ (segment_octets c.args.wide c.args.segment.now) _ (written c.put_as_numbers.new.out) fits c.in_ok-put.ensures.ok) c.put_as_numbers.ensures.err

pub returns-in_err-put-clause-err : goal.returns-in_err-put-clause-err
returns-in_err-put-clause-err g c =
    on_refusal c.from_residual.result (([], c.in_err-put.ensures.err ∙ sym (append-nil (g.O.Output.written c.args.out.now))), omega (arith, c.in_err-put.ensures.full, segment_fits c.args.wide c.args.segment.now))
