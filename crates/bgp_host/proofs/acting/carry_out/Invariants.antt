use Rattle.bgp_host.proofs.Prelude.{◌≡◌, List, ◌++◌, Action, CarriesOut}
use Rattle.bgp_host.proofs.acting.carry_out.Given as goal

-- the actions so far were carried out
abbrev pub invariant-actions : goal.invariant-actions
invariant-actions g l =
    (done : List Action)
    × (done ++ l.action-iterator.rest.now ≡ l.fn.actions.items)
    × CarriesOut l.fn.own l.fn.link done
    (record { calls = g.C.Connection.calls l.initial.connection; ticks = g.K.Clock.ticks l.initial.clock; notices = g.O.Observer.notices l.initial.observer })
    (record { calls = g.C.Connection.calls l.connection; ticks = g.K.Clock.ticks l.clock; notices = g.O.Observer.notices l.observer })
    l.link
