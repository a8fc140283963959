use Rattle.std.proofs.Common.{◌+◌, ◌≤◌, length, sym, ◌∙◌, arith, rules}
use Rattle.bgp_wire.proofs.Walks.{shorter, same_rest, all_rest, not_more, counts, counted}
use Rattle.bgp_prefix.specs.Prelude.{PrefixValue, IsPrefix, one_prefix}
use Rattle.bgp_prefix.proofs.PrefixLemmas.{IsPrefix-reads}
use Rattle.bgp_prefix.proofs.front.skip_run.Goals as goal

pub overflow_add-count : goal.overflow_add-count
overflow_add-count g c =
    let more = counts PrefixValue (IsPrefix g.row.W) (one_prefix g.row.W) (IsPrefix-reads g.row.W) c.run.rest.now _ c.in-Some.found.after.now c.run.count _ c.in-Some.ensures.value c.run.invariant.count in
    let fits : c.run.count + 1 ≤ length c.args.octets.now = omega (arith, more, not_more PrefixValue (IsPrefix g.row.W) (one_prefix g.row.W) (IsPrefix-reads g.row.W) c.args.octets.now) in
    search rules

pub run-smaller : goal.run-smaller
run-smaller g c = shorter PrefixValue (IsPrefix g.row.W) (one_prefix g.row.W) (IsPrefix-reads g.row.W) c.run.rest.now _ c.in-Some.found.after.now c.in-Some.ensures.value

pub run-preserved : goal.run-preserved
run-preserved g c = record {
  count = counts PrefixValue (IsPrefix g.row.W) (one_prefix g.row.W) (IsPrefix-reads g.row.W) c.run.rest.now _ c.in-Some.found.after.now c.run.count _ c.in-Some.ensures.value c.run.invariant.count;
  rest = same_rest PrefixValue (IsPrefix g.row.W) (one_prefix g.row.W) (IsPrefix-reads g.row.W) c.run.rest.now _ c.in-Some.found.after.now c.in-Some.ensures.value ∙ c.run.invariant.rest;
}

pub returns-clause-count : goal.returns-clause-count
returns-clause-count g c = counted PrefixValue (IsPrefix g.row.W) (one_prefix g.row.W) (IsPrefix-reads g.row.W) c.run.rest.now c.run.count _ c.in_default.ensures.value c.run.invariant.count

pub returns-clause-rest : goal.returns-clause-rest
returns-clause-rest g c = sym (all_rest PrefixValue (IsPrefix g.row.W) (one_prefix g.row.W) (IsPrefix-reads g.row.W) c.run.rest.now c.in_default.ensures.value) ∙ c.run.invariant.rest
