use Rattle.bgp_engine.proofs.Prelude.{◌∙◌, ap, arith, length, not, sym, err_from_is_err_and, nil_from_length, eqb-true, walk_of}
use Rattle.bgp_engine.proofs.Walks.{moves_heard, moves_more, moves_none, none_there, takes_on, takes_over, walk_total}
use Rattle.bgp_engine.proofs.walk.WalkEngine.take.Goals as goal

pub stream-init : goal.stream-init
stream-init g c = record {
  moves = moves_none _ _ _ c.requires.going;
  fits = λ none. let counting = c.requires.going.counting none in omega (arith, counting.place, c.requires.room);
}

pub stream-preserved : goal.stream-preserved
stream-preserved g c =
    let at = c.stream.invariant in
    let hears = c.in_ok-taken.ensures in
    let unended = none_there _ (c.is_none.ensures ∙ ap not c.stream-test.true) in
    let fits = at.fits unended in
    let step = moves_heard _ _ _ _ _ _ unended at.moves.ready hears.hears hears.octets fits in
    rw c.split_at.ensures.back (record { moves = moves_more _ _ _ _ _ _ _ _ _ at.moves step; fits = λ none. omega (arith, fits, step.count) })

pub returns-in_err-taken-clause-memory : goal.returns-in_err-taken-clause-memory
returns-in_err-taken-clause-memory g c =
    let p = err_from_is_err_and c.from_residual.result c.from_residual.ensures.1 in
    rw p.1 (walk_total (walk_of g.P.Page.rules c.args.self.now))

pub returns-then-is_empty-clause-takes : goal.returns-then-is_empty-clause-takes
returns-then-is_empty-clause-takes g c =
    let none = nil_from_length c.stream.rest.now (eqb-true (length c.stream.rest.now) 0 (sym c.is_empty.ensures ∙ c.if-is_empty.true)) in
    takes_on _ _ _ _ _ (rw none at c.stream.invariant.moves) (none_there _ (c.is_none.ensures ∙ ap not c.stream-test.true))

pub returns-clause-takes : goal.returns-clause-takes
returns-clause-takes g c =
    takes_over _ _ _ _ _ _ c.stream.invariant.moves (c.is_none.ensures ∙ ap not c.stream-test.false)
