use Rattle.bgp_session.proofs.Prelude.{◌≡◌, drop, sym, subst, arith, IsAtRest, IsReady, fed_on, with_machine, FeedsOn, left_seen, End, Pair, pair, observed}
use Rattle.bgp_session.specs.contracts.speaker.Speaker.{the_view}
use Rattle.bgp_session.proofs.Feeds.{acts_on, takes_more, ends_so}
use Rattle.bgp_session.proofs.Sights.{context_copied, saw_step, saw_more, saw_none}
use Rattle.bgp_session.proofs.acting.pull.Goals as goal

pub returns-in_ok-act_all-in-Some-clause-feeds : goal.returns-in_ok-act_all-in-Some-clause-feeds
returns-in_ok-act_all-in-Some-clause-feeds g c =
    let q : Pair = pair c.act_all.new.this c.act_all.new.other c.act_all.new.notes in
    subst (λ (e : End). FeedsOn c.args.side (pair e c.args.other.now c.args.notes.now) c.args.piece.now c.in_ok-taken.taken q) c.this.view_is
    (acts_on c.args.side (pair (the_view c.this.inside) c.args.other.now c.args.notes.now) c.args.piece.now c.in_ok-taken.taken c.pull.new.self c.in_ok-taken.found
    (subst (λ (e : End). IsReady e.session) (sym c.this.view_is) c.requires.ready) (λ i. omega (arith, c.type_inv.piece i)) c.in_ok-taken.ensures.ok c.in-Some.actions q c.in-Some.is c.in_ok-act_all-in-Some.ensures)

pub returns-in-None-clause-feeds : goal.returns-in-None-clause-feeds
returns-in-None-clause-feeds g c =
    let q : Pair = with_machine (pair (the_view c.this.inside) c.args.other.now c.args.notes.now) c.pull.new.self in
    subst (λ (e : End). (fed_on c.args.side (pair e c.args.other.now c.args.notes.now) c.args.piece.now ≡ q) × IsAtRest c.pull.new.self) c.this.view_is
    (ends_so c.args.side (pair (the_view c.this.inside) c.args.other.now c.args.notes.now) c.args.piece.now c.in_ok-taken.taken c.pull.new.self c.in_ok-taken.found
    (subst (λ (e : End). IsReady e.session) (sym c.this.view_is) c.requires.ready) (λ i. omega (arith, c.type_inv.piece i)) c.in_ok-taken.ensures.ok c.in-None.is c.if-taken-eq0.true)

pub returns-in-None-2-clause-feeds : goal.returns-in-None-2-clause-feeds
returns-in-None-2-clause-feeds g c =
    let q : Pair = with_machine (pair (the_view c.this.inside) c.args.other.now c.args.notes.now) c.pull.new.self in
    subst (λ (e : End). FeedsOn c.args.side (pair e c.args.other.now c.args.notes.now) c.args.piece.now c.in_ok-taken.taken q) c.this.view_is
    (takes_more c.args.side (pair (the_view c.this.inside) c.args.other.now c.args.notes.now) c.args.piece.now c.in_ok-taken.taken c.pull.new.self c.in_ok-taken.found
    (subst (λ (e : End). IsReady e.session) (sym c.this.view_is) c.requires.ready) (λ i. omega (arith, c.type_inv.piece i)) c.in_ok-taken.ensures.ok c.in-None-2.is c.if-taken-eq0.false)

pub returns-in_ok-act_all-in-Some-clause-seen : goal.returns-in_ok-act_all-in-Some-clause-seen
returns-in_ok-act_all-in-Some-clause-seen g c =
    let q : Pair = pair c.act_all.new.this c.act_all.new.other c.act_all.new.notes in
    subst (λ (e : End). observed g.O.Observer.after (g.O.Observer.seen c.args.observer.now) (left_seen c.args.side e.session c.args.piece.now)
    ≡ observed g.O.Observer.after (g.O.Observer.seen c.heard.new.self) (left_seen c.args.side q.this.session (drop c.in_ok-taken.taken c.args.piece.now))) c.this.view_is
    (saw_step g.O.Observer.after (g.O.Observer.seen c.args.observer.now) (g.O.Observer.seen c.came.new.self) (g.O.Observer.seen c.heard.new.self) c.args.side
    (pair (the_view c.this.inside) c.args.other.now c.args.notes.now) c.args.piece.now c.split_at.result.0.now c.in_ok-taken.taken c.pull.new.self c.in_ok-taken.found
    (subst (λ (e : End). IsReady e.session) (sym c.this.view_is) c.requires.ready) (λ i. omega (arith, c.type_inv.piece i)) c.in_ok-taken.ensures.ok c.split_at.ensures.front c.in_ok-came.ensures
    c.in-Some.actions q c.copied-context.result c.state.result c.deref.result.now c.in-Some.is c.in_ok-act_all-in-Some.ensures
    (context_copied c.copied-context.result c.context.result c.this.inside.session.standing.context c.copied-context.ensures c.context.ensures) c.state.ensures c.deref.ensures.0
    c.in_ok-heard-in-Some.ensures)

pub returns-in-None-clause-seen : goal.returns-in-None-clause-seen
returns-in-None-clause-seen g c =
    subst (λ (e : End). observed g.O.Observer.after (g.O.Observer.seen c.args.observer.now) (left_seen c.args.side e.session c.args.piece.now) ≡ g.O.Observer.seen c.came.new.self) c.this.view_is
    (saw_none g.O.Observer.after (g.O.Observer.seen c.args.observer.now) (g.O.Observer.seen c.came.new.self) (g.O.Observer.seen c.came.new.self) c.args.side
    (pair (the_view c.this.inside) c.args.other.now c.args.notes.now) c.args.piece.now c.split_at.result.0.now c.in_ok-taken.taken c.pull.new.self c.in_ok-taken.found
    (subst (λ (e : End). IsReady e.session) (sym c.this.view_is) c.requires.ready) (λ i. omega (arith, c.type_inv.piece i)) c.in_ok-taken.ensures.ok c.split_at.ensures.front c.in_ok-came.ensures
    c.in-None.is c.if-taken-eq0.true)

pub returns-in-None-2-clause-seen : goal.returns-in-None-2-clause-seen
returns-in-None-2-clause-seen g c =
    subst (λ (e : End). observed g.O.Observer.after (g.O.Observer.seen c.args.observer.now) (left_seen c.args.side e.session c.args.piece.now)
    ≡ observed g.O.Observer.after (g.O.Observer.seen c.came.new.self) (left_seen c.args.side c.pull.new.self (drop c.in_ok-taken.taken c.args.piece.now))) c.this.view_is
    (saw_more g.O.Observer.after (g.O.Observer.seen c.args.observer.now) (g.O.Observer.seen c.came.new.self) (g.O.Observer.seen c.came.new.self) c.args.side
    (pair (the_view c.this.inside) c.args.other.now c.args.notes.now) c.args.piece.now c.split_at.result.0.now c.in_ok-taken.taken c.pull.new.self c.in_ok-taken.found
    (subst (λ (e : End). IsReady e.session) (sym c.this.view_is) c.requires.ready) (λ i. omega (arith, c.type_inv.piece i)) c.in_ok-taken.ensures.ok c.split_at.ensures.front c.in_ok-came.ensures
    c.in-None-2.is)
