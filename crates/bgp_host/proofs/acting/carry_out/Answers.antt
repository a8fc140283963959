use Rattle.bgp_host.proofs.Prelude.{[], ◌∷◌, ◌++◌, ◌∙◌, sym, ap, subst, List, Option, append_assoc, Action, Records, CarriesOut, Call, Tick, Notice}
use Rattle.bgp_host.proofs.Deeds.{carried_none, carried_next, all_done}
use Rattle.bgp_host.proofs.acting.carry_out.Goals as goal

abbrev records : Option (List Call) → Option (List Tick) → Option (List Notice) → Records
records calls ticks notices = record { calls = calls; ticks = ticks; notices = notices }

pub actions-init : goal.actions-init
actions-init g c = (
  [],
  c.into_iter-action-iterator.ensures.into_iter_gives.0,
  carried_none c.args.own.now c.args.link (records (g.C.Connection.calls c.args.connection.now) (g.K.Clock.ticks c.args.clock.now) (g.O.Observer.notices c.args.observer.now)),
)

pub actions-preserved : goal.actions-preserved
actions-preserved g c = (
  c.actions.invariant.0 ++ c.in-Some.action.now ∷ [],
  append_assoc c.actions.invariant.0 (c.in-Some.action.now ∷ []) c.next.new.self.rest.now ∙ ap (λ (l : List Action). c.actions.invariant.0 ++ l) (sym c.in-Some.ensures.steps) ∙ c.actions.invariant.1,
  carried_next c.args.own.now c.args.link c.actions.invariant.0 c.in-Some.action.now
      (records (g.C.Connection.calls c.args.connection.now) (g.K.Clock.ticks c.args.clock.now) (g.O.Observer.notices c.args.observer.now))
      (records (g.C.Connection.calls c.actions.connection) (g.K.Clock.ticks c.actions.clock) (g.O.Observer.notices c.actions.observer))
      (records (g.C.Connection.calls c.ask-link.new.connection) (g.K.Clock.ticks c.tick.new.clock) (g.O.Observer.notices c.notice.new.observer))
      c.actions.link c.ask-link.result c.actions.invariant.2 c.ask-link.ensures c.tick.ensures c.notice.ensures,
)

pub returns : goal.returns
returns g c =
    subst (λ (done : List Action). CarriesOut c.args.own.now c.args.link done
    (records (g.C.Connection.calls c.args.connection.now) (g.K.Clock.ticks c.args.clock.now) (g.O.Observer.notices c.args.observer.now))
    (records (g.C.Connection.calls c.actions.connection) (g.K.Clock.ticks c.actions.clock) (g.O.Observer.notices c.actions.observer)) c.actions.link)
    (all_done c.actions.invariant.0 c.actions.action-iterator.rest.now c.args.actions.now.items c.in-None.ensures.steps.0 c.actions.invariant.1) c.actions.invariant.2
