use Rattle.ristulva_c.proofs.Below.{arith, length, subst, sym, List, ℕ, ◌+◌, ◌∙◌}
use Rattle.bgp_frame.specs.declared.kind.Kind.TheVariants as kinds
use Rattle.bgp_frame.specs.Prelude.{IsLength}
use Rattle.bgp_paths.specs.Prelude.{plain_body}
use Rattle.ristulva_c.specs.Prelude.{context_of}
use Rattle.ristulva_c.specs.steps.Paths.{AreCountsOf, all_counted, all_of}
use Rattle.ristulva_c.proofs.PathCounts.{all_long, has_room, lists, no_room}
use Rattle.ristulva_c.proofs.PlainMessages.{plain_allowed}
use Rattle.ristulva_c.proofs.path_list.list_update.Goals as goal

pub put_update-requires-clause-allowed : goal.put_update-requires-clause-allowed
put_update-requires-clause-allowed c =
    subst (λ (b : List ℕ). IsLength kinds.Update (19 + length b)) (sym c.as_slice.ensures)
    (plain_allowed c.args.body.now c.fill.new.self c.fill.ensures.shorter c.fill.ensures.longer c.requires)

pub returns-then-count-list : goal.returns-then-count-list
returns-then-count-list c =
    let ctx = context_of c.args.ctx.now in
    let runs = c.path_runs-runs.result in
    let n = c.in-Some.counts in
    let counts : AreCountsOf ctx (plain_body c.args.families c.args.body.now) n =
    subst (λ (b : List ℕ). AreCountsOf ctx b n) (c.as_slice-3.ensures ∙ c.fill.ensures.body) c.in-Some.ensures in
    lists ctx c.args.families c.args.body.now runs n _ c.path_runs-runs.ensures.runs counts
    (no_room (all_counted runs n) c.args.list.now (all_of n) c.args.written.now (all_long runs n) c.if-count-list.true)

pub returns : goal.returns
returns c =
    let ctx = context_of c.args.ctx.now in
    let runs = c.path_runs-runs.result in
    let n = c.in-Some.counts in
    let counts : AreCountsOf ctx (plain_body c.args.families c.args.body.now) n =
    subst (λ (b : List ℕ). AreCountsOf ctx b n) (c.as_slice-3.ensures ∙ c.fill.ensures.body) c.in-Some.ensures in
    lists ctx c.args.families c.args.body.now runs n _ c.path_runs-runs.ensures.runs counts
    (has_room (all_counted runs n) c.args.list.now c.put_all.new.list (all_of n) c.args.written.now (all_long runs n) (omega (arith, c.if-count-list.false)) c.put_all.ensures)
