use Rattle.std.proofs.Common.{ℕ, ◌≡◌, List, [], ◌∷◌, ap, ◌∙◌, sym, Some, rules}
use Rattle.bgp_wire.proofs.Walks.{first_then, no_more}
use Rattle.bgp_prefix.specs.Prelude.{PrefixValue, IsPrefix, one_prefix, run_of}
use Rattle.bgp_prefix.proofs.PrefixLemmas.{IsPrefix-reads}
use Rattle.bgp_prefix.proofs.iter.PrefixIterIterator.next.Goals as goal

-- the prefixes of octets that begin with one
steps : (width : ℕ) (b : List ℕ) (p : PrefixValue) (after : List ℕ) → Some (p, after) ≡ one_prefix width b → (run_of width b).0 ≡ p ∷ (run_of width after).0
steps width b p after e = first_then PrefixValue (IsPrefix width) (one_prefix width) (IsPrefix-reads width) b p after e

pub returns-in_err-front-clause-steps : goal.returns-in_err-front-clause-steps
returns-in_err-front-clause-steps g c =
    let none : (run_of g.row.W c.args.self.now.rest.now).0 ≡ [] = no_more PrefixValue (IsPrefix g.row.W) (one_prefix g.row.W) (IsPrefix-reads g.row.W) c.args.self.now.rest.now c.in_err-front.ensures.value in
    rw c.from_residual.ensures (none, none)

pub returns-clause-steps : goal.returns-clause-steps
returns-clause-steps g c =
    steps g.row.W c.args.self.now.rest.now _ c.in_ok-front.front.after.now c.in_ok-front.ensures.value
    ∙ ap (λ (p : PrefixValue). p ∷ (run_of g.row.W c.in_ok-front.front.after.now).0) (sym c.from_front.ensures)

pub returns-clause-goes : goal.returns-clause-goes
returns-clause-goes g c =
    let more = steps g.row.W c.args.self.now.rest.now _ c.in_ok-front.front.after.now c.in_ok-front.ensures.value in
    search rules
