use Rattle.bgp_wire.proofs.Std.{ℕ, List, ap, ◌∙◌, list_any}
use Rattle.bgp_attr.specs.Prelude.{one_triple, triples_of, same_triple}
use Rattle.bgp_attr.proofs.LargeSteps.{nothing_new, none_new, up_more, seen_before, not_before}
use Rattle.bgp_attr.proofs.large_view.first_new_triple.Goals as goal

pub returns-in_err-found : goal.returns-in_err-found
returns-in_err-found c =
    rw c.from_residual.ensures (c.row.invariant.1 ∙ none_new c.args.octets.now c.row.at (c.in_err-found.ensures ∙ ap one_triple c.split_at.ensures.back))

pub returns-then-not-stands_in : goal.returns-then-not-stands_in
returns-then-not-stands_in c =
    let found = c.in_ok-found.ensures ∙ ap one_triple c.split_at.ensures.back in
    let new = c.if-not-stands_in.ensures ∙ ap (λ (b : List ℕ). list_any (same_triple c.in_ok-found.found.0) (triples_of b)) c.split_at.ensures.front in (
      c.row.invariant.1 ∙ not_before c.args.octets.now c.row.at c.row.invariant.0 c.in_ok-found.found.0 c.in_ok-found.found.1.now found new,
      up_more c.args.octets.now c.row.at c.row.invariant.0 c.in_ok-found.found.0 c.in_ok-found.found.1.now found,
    )

pub row-preserved : goal.row-preserved
row-preserved c =
    let found = c.in_ok-found.ensures ∙ ap one_triple c.split_at.ensures.back in
    let seen = c.if-not-stands_in.ensures ∙ ap (λ (b : List ℕ). list_any (same_triple c.in_ok-found.found.0) (triples_of b)) c.split_at.ensures.front in (
      up_more c.args.octets.now c.row.at c.row.invariant.0 c.in_ok-found.found.0 c.in_ok-found.found.1.now found,
      c.row.invariant.1 ∙ seen_before c.args.octets.now c.row.at c.row.invariant.0 c.in_ok-found.found.0 c.in_ok-found.found.1.now found seen,
    )

pub returns : goal.returns
returns c = c.row.invariant.1 ∙ nothing_new c.args.octets.now c.row.at c.row-test.false
