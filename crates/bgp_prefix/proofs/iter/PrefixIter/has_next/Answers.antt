use Rattle.std.proofs.Common.{List, [], ◌≡◌, length, ap, sym, lt-ltb, arith}
use Rattle.std.specs.Prelude.{nat_lt}
use Rattle.bgp_wire.proofs.Walks.{first_then, no_more}
use Rattle.bgp_prefix.specs.Prelude.{PrefixValue, IsPrefix, one_prefix, run_of}
use Rattle.bgp_prefix.proofs.PrefixLemmas.{IsPrefix-reads}
use Rattle.bgp_prefix.proofs.iter.PrefixIter.has_next.Goals as goal

pub returns-in-Some : goal.returns-in-Some
returns-in-Some g c =
    let more = first_then PrefixValue (IsPrefix g.row.W) (one_prefix g.row.W) (IsPrefix-reads g.row.W) c.args.self.now.rest.now _ c.in-Some.field-0.after.now c.in-Some.ensures.value in
    sym (lt-ltb 0 (length (run_of g.row.W c.args.self.now.rest.now).0) (let some = ap (λ (ps : List PrefixValue). length ps) more in omega (arith, some)))

pub returns-in-None : goal.returns-in-None
returns-in-None g c =
    let none : (run_of g.row.W c.args.self.now.rest.now).0 ≡ [] = no_more PrefixValue (IsPrefix g.row.W) (one_prefix g.row.W) (IsPrefix-reads g.row.W) c.args.self.now.rest.now c.in-None.ensures.value in
    sym (ap (λ (ps : List PrefixValue). nat_lt 0 (length ps)) none)
