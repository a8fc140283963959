use Rattle.std.proofs.Common.{Result, Ok, Err, map, sym, ap, ◌∙◌}
use Rattle.std.specs.Result.{OnOk}
use Rattle.bgp_session.specs.declared.side.Side.{Side}
use Rattle.bgp_session.specs.declared.side.Side.TheVariants.{A, B}
use Rattle.bgp_session.specs.Prelude.{Came, observed}
use Rattle.bgp_loop.specs.contracts.tracer.Tracer.{the_view}
use Rattle.bgp_loop.specs.Trace.{Traced, with_coming, traced}
use Rattle.bgp_loop.proofs.Traces.{came_to_a, came_to_b}
use Rattle.bgp_loop.proofs.tracer.TracerObserver.came.Goals as goal

on_ok : {T E P Q : Type 0} → (P → Q) → (r : Result T E) → OnOk r P → OnOk r Q
on_ok f (Ok v) p = f p
on_ok f (Err e) p = p

pub returns-in-A : goal.returns-in-A
returns-in-A c =
    let t : Traced = the_view c.self.inside in
    on_ok (λ took.
    ap (with_coming A t) took ∙ sym (came_to_a t c.args.octets.now)
    ∙ ap (λ (x : Traced). observed traced x (map (Came A) c.args.octets.now)) c.self.view_is
    ∙ ap (λ (side : Side). observed traced c.args.self.now (map (Came side) c.args.octets.now)) (sym c.in-A.is)) c.take.result c.take.ensures

pub returns-in-B : goal.returns-in-B
returns-in-B c =
    let t : Traced = the_view c.self.inside in
    on_ok (λ took.
    ap (with_coming B t) took ∙ sym (came_to_b t c.args.octets.now)
    ∙ ap (λ (x : Traced). observed traced x (map (Came B) c.args.octets.now)) c.self.view_is
    ∙ ap (λ (side : Side). observed traced c.args.self.now (map (Came side) c.args.octets.now)) (sym c.in-B.is)) c.take-in-B.result c.take-in-B.ensures
