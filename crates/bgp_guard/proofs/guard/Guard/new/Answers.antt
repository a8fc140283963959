use Rattle.bgp_guard.proofs.Prelude.{◌≡◌, length, sym, ap, subst, arith, WaitsIn, Half, absent, half_of, nothing_waits}
use Rattle.bgp_guard.proofs.guard.Guard.new.Goals as goal
use Rattle.bgp_guard.specs.Guard.{types}
use Rattle.bgp_guard.proofs.Types.{types-are}

pub invariant_of-result : goal.invariant_of-result
invariant_of-result c =
    let outer : half_of c.in_ok-outer.outer ≡ absent = c.in_ok-outer.ensures in
    let inner : half_of c.in_ok-inner.inner ≡ absent = c.in_ok-inner.ensures in (
      λ up. omega (arith, ap (λ (h : Half). length h.way) outer),
      (
        λ up. omega (arith, ap (λ (h : Half). length h.way) inner),
        (subst (WaitsIn types) (sym (ap (λ (h : Half). h.held) outer)) (nothing_waits types types-are), subst (WaitsIn types) (sym (ap (λ (h : Half). h.held) inner)) (nothing_waits types types-are)),
      ),
    )
