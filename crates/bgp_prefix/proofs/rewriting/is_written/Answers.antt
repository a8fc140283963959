use Rattle.bgp_wire.proofs.Std.{◌≡◌, List, ℕ, ◌++◌, length, ap, sym, ◌∙◌, rules, nil_from_length, flat_map-cons, flat_map}
use Rattle.std.proofs.lemmas.Bool.{eqb-true}
use Rattle.bgp_wire.proofs.Walks.{first_then, no_more}
use Rattle.bgp_prefix.specs.Prelude.{leading_bits, PrefixValue, IsPrefix, one_prefix, prefix_of, spelling_of, run_of}
use Rattle.bgp_prefix.proofs.PrefixLemmas.{IsPrefix-reads}
use Rattle.bgp_prefix.proofs.WrittenFronts.{clear_more}
use Rattle.bgp_prefix.proofs.rewriting.is_written.Goals as goal

pub run-preserved : goal.run-preserved
run-preserved g c left =
    let f = c.in-Some.front in
    let p : PrefixValue = prefix_of g.row.W f.len f.read.now in
    let clear : leading_bits f.len f.read.now ≡ f.read.now = search rules in
    c.run.invariant
    (ap (flat_map spelling_of) (first_then PrefixValue (IsPrefix g.row.W) (one_prefix g.row.W) (IsPrefix-reads g.row.W) c.run.rest.now p f.after.now c.in-Some.ensures.value)
    ∙ flat_map-cons spelling_of p (run_of g.row.W f.after.now).0
    ∙ ap (λ (b : List ℕ). spelling_of p ++ b) left
    ∙ clear_more g.row.W f.len f.read.now f.after.now c.run.rest.now c.in-Some.ensures.held clear c.in-Some.ensures.parts)

pub returns : goal.returns
returns g c empty =
    let rest : List ℕ = c.run.rest.now in
    c.run.invariant
    (ap (flat_map spelling_of) (no_more PrefixValue (IsPrefix g.row.W) (one_prefix g.row.W) (IsPrefix-reads g.row.W) rest c.in_default.ensures.value)
    ∙ sym (nil_from_length rest (eqb-true (length rest) 0 (sym c.is_empty.ensures ∙ empty))))
