use Rattle.bgp_engine.proofs.Prelude.{arith, refl}
use Rattle.bgp_engine.proofs.Walks.{counting_fed, hears_fed, hears_pulled, hears_some}
use Rattle.bgp_engine.proofs.walk.Walk.step.Goals as goal

pub returns-in-Some-clause-hears : goal.returns-in-Some-clause-hears
returns-in-Some-clause-hears g c = hears_pulled _ _ _ _ _ _ c.requires.ready.typed.are (rw c.in-Some.is at c.in_ok-taken.ensures)

pub returns-in-Some-clause-some : goal.returns-in-Some-clause-some
returns-in-Some-clause-some g c =
    hears_some _ _ c.args.octets.now _ _ _ c.requires.unended c.requires.ready (returns-in-Some-clause-hears g c)

pub returns-in_ok-judge-in-None-clause-hears : goal.returns-in_ok-judge-in-None-clause-hears
returns-in_ok-judge-in-None-clause-hears g c =
    hears_fed _ _ _ _ _ _ _ _ _ c.requires.ready.typed.are c.requires.unended (rw c.in-None.is at c.in_ok-taken.ensures)
    (c.feed-taken.ensures.takes, c.feed-taken.ensures.progress) refl _ (rw c.feed-taken.ensures.appends at c.in_ok-judge-in-None.ensures)

pub judge-requires-in-None-clause-counting : goal.judge-requires-in-None-clause-counting
judge-requires-in-None-clause-counting g c =
    rw c.feed-taken.ensures.appends
    (counting_fed _ _ _ _ _ _ c.requires.ready c.requires.unended (rw c.in-None.is at c.in_ok-taken.ensures) (λ i. omega (arith, c.type_inv.octets i)) c.feed-taken.ensures.takes.within c.requires.room)

pub returns-in_ok-judge-in-None-clause-some : goal.returns-in_ok-judge-in-None-clause-some
returns-in_ok-judge-in-None-clause-some g c =
    hears_some _ _ c.args.octets.now _ _ _ c.requires.unended c.requires.ready (returns-in_ok-judge-in-None-clause-hears g c)
