use Rattle.bgp_wire.proofs.Std.{ℕ, List, [], ◌∷◌, ◌++◌, ap, ◌∙◌, err_from_is_err_and}
use Rattle.bgp_wire.proofs.Walks.{shorter, same_rest, pushes, not_none, has_read}
use Rattle.bgp_prefix.specs.Prelude.{PrefixValue, IsPrefix, one_prefix}
use Rattle.bgp_prefix.proofs.PrefixLemmas.{IsPrefix-reads}
use Rattle.bgp_prefix.proofs.RunLemmas.{none_first, some_first, reading_fault}
use Rattle.bgp_prefix.proofs.run.read_run.Goals as goal

pub run-smaller : goal.run-smaller
run-smaller g c = shorter PrefixValue (IsPrefix g.row.W) (one_prefix g.row.W) (IsPrefix-reads g.row.W) c.run.rest.now _ c.in-Some.front.after.now c.in-Some.ensures.value

pub returns-in_err-push : goal.returns-in_err-push
returns-in_err-push g c =
    let p = err_from_is_err_and c.from_residual.result c.from_residual.ensures.1 in
    rw (p.1, p.2) (not_none PrefixValue (IsPrefix g.row.W) (one_prefix g.row.W) (IsPrefix-reads g.row.W) c.run.rest.now _ c.in-Some.front.after.now c.run.prefixes _ c.in-Some.ensures.value c.run.invariant.prefixes)

pub run-preserved : goal.run-preserved
run-preserved g c = record {
  prefixes = pushes PrefixValue (IsPrefix g.row.W) (one_prefix g.row.W) (IsPrefix-reads g.row.W) c.run.rest.now _ c.in-Some.front.after.now c.run.prefixes c.push.new.self _ c.in-Some.ensures.value
      (c.in_ok-push.ensures.ok ∙ ap (λ (p : PrefixValue). c.run.prefixes ++ p ∷ []) c.from_front.ensures) c.run.invariant.prefixes;
  rest = same_rest PrefixValue (IsPrefix g.row.W) (one_prefix g.row.W) (IsPrefix-reads g.row.W) c.run.rest.now _ c.in-Some.front.after.now c.in-Some.ensures.value ∙ c.run.invariant.rest;
}

pub returns-in-None : goal.returns-in-None
returns-in-None g c =
    let nothing = none_first c.run.rest.now c.in-None.ensures.value in
    rw (← nothing) (has_read PrefixValue (IsPrefix g.row.W) (one_prefix g.row.W) (IsPrefix-reads g.row.W) c.args.octets.now c.run.rest.now c.run.prefixes c.in_default.ensures.value c.run.invariant.prefixes c.run.invariant.rest)

pub returns-in-Some-first : goal.returns-in-Some-first
returns-in-Some-first g c =
    let l = c.in-Some-first.len.now in
    let rest = some_first c.run.rest.now l c.in-Some-first.ensures.value in
    let read = has_read PrefixValue (IsPrefix g.row.W) (one_prefix g.row.W) (IsPrefix-reads g.row.W) c.args.octets.now c.run.rest.now c.run.prefixes c.in_default.ensures.value c.run.invariant.prefixes c.run.invariant.rest in
    reading_fault g.row.W c.args.octets.now c.run.prefixes l rest.0 c.fault_at.result (read ∙ ap (λ (b : List ℕ). (c.run.prefixes, b)) rest.1) c.fault_at.ensures
