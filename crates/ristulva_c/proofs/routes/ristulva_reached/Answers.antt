use Rattle.std.proofs.Common.{ℕ, ◌+◌, ap₂}
use Rattle.ristulva_c.specs.declared.prefixes.Prefixes.{Prefixes}
use Rattle.ristulva_c.proofs.RouteSpans.{reach_left}
use Rattle.ristulva_c.proofs.routes.ristulva_reached.Goals as goal

pub returns-in-Some-reach_of-clause-ok : goal.returns-in-Some-reach_of-clause-ok
returns-in-Some-reach_of-clause-ok c ok =
    let value = c.args.value.now in
    let is = c.in-Some-reach_of.ensures in
    let cursor : ℕ → ℕ → Prefixes = λ (family : ℕ) (hop : ℕ). record { at = value.at + (5 + hop); end = value.at + value.len; afi = family } in
    reach_left c.args.octets.now c.in-Some.found.now value (cursor c.in-Some-reach_of.family c.in-Some-reach_of.hop) c.in-Some.ensures.0 c.in-Some.ensures.1 is.0
    (ap₂ cursor is.1.0 is.1.1)
