use Rattle.bgp_wire.proofs.Std.{ℕ, ◌+◌, ◌<◌, List, Option, length, sym, ap, ◌∙◌, subst, flat_map, AllByRecursion, on_err_weaker}
use Rattle.std.proofs.lemmas.List.{append-nil}
use Rattle.std.proofs.lemmas.Result.{on_ok_weaker}
use Rattle.bgp_attr.specs.declared.attr.AttrRef.{AttrRef}
use Rattle.bgp_attr.specs.Prelude.{ref_value, canonical, HasRanges}
use Rattle.bgp_update.specs.Prelude.{present}
use Rattle.bgp_update.proofs.ToldPaths.{nothing_there, one_there, unchanged}
use Rattle.bgp_update.proofs.put.put_present.Goals as goal

pub returns-in-None-clause-ok : goal.returns-in-None-clause-ok
returns-in-None-clause-ok g c =
    let written = g.O.Output.written in
    nothing_there ref_value c.args.attr c.args.ctx.now (written c.args.out.now) (written c.args.out.now) (sym c.in-None.is)

pub returns-in-Some-clause-ok : goal.returns-in-Some-clause-ok
returns-in-Some-clause-ok g c =
    let written = g.O.Output.written in
    one_there ref_value c.args.attr c.args.ctx.now (written c.args.out.now) (written c.put_attr.new.out) c.put_attr.result c.in-Some.attr (sym c.in-Some.is) c.put_attr.ensures.ok

pub returns-in-Some-clause-ranges : goal.returns-in-Some-clause-ranges
returns-in-Some-clause-ranges g c =
    on_ok_weaker c.put_attr.result
    (λ p. subst (λ (o : Option AttrRef). AllByRecursion HasRanges (present ref_value o)) (sym c.in-Some.is) (p, tt))
    c.put_attr.ensures.ranges

pub returns-in-Some-clause-err : goal.returns-in-Some-clause-err
returns-in-Some-clause-err g c = unchanged c.put_attr.result (g.O.Output.written c.args.out.now) (g.O.Output.written c.put_attr.new.out) c.put_attr.ensures.err

pub returns-in-Some-clause-full : goal.returns-in-Some-clause-full
returns-in-Some-clause-full g c =
    let octets = canonical c.args.ctx.now in
    on_err_weaker c.put_attr.result
    (λ lt. subst (λ (b : List ℕ). g.O.Output.room < length (g.O.Output.written c.args.out.now) + length b)
    (sym (append-nil (octets (ref_value c.in-Some.attr))) ∙ ap (λ (o : Option AttrRef). flat_map octets (present ref_value o)) (sym c.in-Some.is)) lt)
    c.put_attr.ensures.full
