-- How a session uses its connection after an event of it: after `Failed` it doesn't use it, and after `Connected` it seeks none.
use Rattle.bgp_host.proofs.Prelude.{◌≡◌, Bool, true, false, List, [], ◌∷◌, ◌++◌, ◌⊎◌, inl, inr, refl, sym, ap, subst, ◌∙◌, Action, Connected, Failed, State}
use Rattle.bgp_host.proofs.Prelude.{Standing, on_event, only_if, disarmed, flushed, Link, Same, Up, Down, Deed, actions_of, sent, link_of, link_behind, Cause}
use Rattle.bgp_host.proofs.Prelude.{Told, Gives, first_link, Hosted, RunsFrom, OneTurn, IsNotUp}
use Rattle.bgp_machine.specs.declared.action.Action.TheVariants.{Connect, Close, SendOpen, SendKeepalive, SendNotification, Arm, Disarm, Announce, Withdraw, Flush}
use Rattle.bgp_machine.specs.declared.timer.Timer.{Timer}
use Rattle.bgp_machine.specs.declared.timer.Timers.{Timers}
use Rattle.bgp_host.proofs.Turns.{runs_none}

-- ---- actions without a use of the connection that can fail

abbrev IsStill : Action → Type 0
IsStill Connect = ⊥
IsStill SendOpen = ⊥
IsStill SendKeepalive = ⊥
IsStill (SendNotification why) = ⊥
IsStill _ = Unit {0}

abbrev AreStill : List Action → Type 0
AreStill [] = Unit {0}
AreStill (action ∷ later) = IsStill action × AreStill later

still_both : (a b : List Action) → AreStill a → AreStill b → AreStill (a ++ b)
still_both [] b first second = second
still_both (action ∷ a) b first second = (first.0, still_both a b first.1 second)

keeps_link : (link : Link) (action : Action) (answer : Bool) → IsStill action → link_of link action answer ≡ link
keeps_link link Connect answer still = absurd still
keeps_link link SendOpen answer still = absurd still
keeps_link link SendKeepalive answer still = absurd still
keeps_link link (SendNotification why) answer still = absurd still
keeps_link link Close answer still = refl
keeps_link link (Arm timer seconds) answer still = refl
keeps_link link (Disarm timer) answer still = refl
keeps_link link (Announce u info) answer still = refl
keeps_link link (Withdraw routes) answer still = refl
keeps_link link Flush answer still = refl

stays : (link : Link) (deeds : List Deed) → AreStill (actions_of deeds) → link_behind link deeds ≡ link
stays link [] still = refl
stays link (d ∷ deeds) still = stays (link_of link d.action d.answer) deeds still.1 ∙ keeps_link link d.action d.answer still.0

only_still : (holds : Bool) (t : Timer) → AreStill (only_if holds (Disarm t))
only_still true t = (tt, tt)
only_still false t = tt

flushed_still : (st : State) → AreStill (flushed st)
flushed_still State.Idle = tt
flushed_still State.Connect = tt
flushed_still State.Active = tt
flushed_still State.OpenSent = tt
flushed_still State.OpenConfirm = tt
flushed_still State.Established = (tt, tt)

left_still : (t : Timers) (st : State) → AreStill (disarmed t ++ flushed st)
left_still t st =
    still_both (disarmed t) (flushed st)
    (still_both (only_if t.retry (Disarm Timer.Retry)) (only_if t.hold (Disarm Timer.Hold) ++ only_if t.keepalive (Disarm Timer.Keepalive)) (only_still t.retry Timer.Retry)
    (still_both (only_if t.hold (Disarm Timer.Hold)) (only_if t.keepalive (Disarm Timer.Keepalive)) (only_still t.hold Timer.Hold) (only_still t.keepalive Timer.Keepalive)))
    (flushed_still st)

failed_still : (x : Standing) (st : State) → AreStill (on_event x st Failed).actions
failed_still x State.Idle = tt
failed_still x State.Connect = left_still x.running x.state
failed_still x State.Active = left_still x.running x.state
failed_still x State.OpenSent = (tt, (tt, tt))
failed_still x State.OpenConfirm = left_still x.running x.state
failed_still x State.Established = left_still x.running x.state

-- a session that receives `Failed` doesn't use the connection
pub failed_ends : (old new : Hosted) (link : Link) → OneTurn (Told Failed) old new link → link ≡ Same
failed_ends old new link one =
    let gives : Gives old.session (Told Failed) (actions_of one.turn.deeds) new.session =
    subst (λ (c : Cause). Gives old.session c (actions_of one.turn.deeds) new.session) one.is_cause one.is_turn.gives in
    one.became
    ∙ ap (λ (c : Cause). link_behind (first_link c) one.turn.deeds) one.is_cause
    ∙ stays Same one.turn.deeds (subst AreStill (sym gives.0) (failed_still old.session.standing old.session.standing.state))

-- ---- actions that seek no connection

abbrev SeeksNone : Action → Type 0
SeeksNone Connect = ⊥
SeeksNone _ = Unit {0}

abbrev SeekNone : List Action → Type 0
SeekNone [] = Unit {0}
SeekNone (action ∷ later) = SeeksNone action × SeekNone later

sent_not_up : (link : Link) (answer : Bool) → IsNotUp link → IsNotUp (sent link answer)
sent_not_up Up answer not = absurd not
sent_not_up Same true not = tt
sent_not_up Same false not = tt
sent_not_up Down true not = tt
sent_not_up Down false not = tt

step_not_up : (link : Link) (action : Action) (answer : Bool) → SeeksNone action → IsNotUp link → IsNotUp (link_of link action answer)
step_not_up link Connect answer none not = absurd none
step_not_up link SendOpen answer none not = sent_not_up link answer not
step_not_up link SendKeepalive answer none not = sent_not_up link answer not
step_not_up link (SendNotification why) answer none not = sent_not_up link answer not
step_not_up link Close answer none not = not
step_not_up link (Arm timer seconds) answer none not = not
step_not_up link (Disarm timer) answer none not = not
step_not_up link (Announce u info) answer none not = not
step_not_up link (Withdraw routes) answer none not = not
step_not_up link Flush answer none not = not

all_not_up : (link : Link) (deeds : List Deed) → SeekNone (actions_of deeds) → IsNotUp link → IsNotUp (link_behind link deeds)
all_not_up link [] none not = not
all_not_up link (d ∷ deeds) none not = all_not_up (link_of link d.action d.answer) deeds none.1 (step_not_up link d.action d.answer none.0 not)

connected_seeks_none : (x : Standing) (st : State) → SeekNone (on_event x st Connected).actions
connected_seeks_none x State.Idle = tt
connected_seeks_none x State.Connect = (tt, (tt, (tt, tt)))
connected_seeks_none x State.Active = (tt, (tt, (tt, tt)))
connected_seeks_none x State.OpenSent = tt
connected_seeks_none x State.OpenConfirm = tt
connected_seeks_none x State.Established = tt

-- a session that receives `Connected` seeks no connection
pub connected_ends : (old new : Hosted) (link : Link) → OneTurn (Told Connected) old new link → IsNotUp link
connected_ends old new link one =
    let gives : Gives old.session (Told Connected) (actions_of one.turn.deeds) new.session =
    subst (λ (c : Cause). Gives old.session c (actions_of one.turn.deeds) new.session) one.is_cause one.is_turn.gives in
    subst IsNotUp (sym (one.became ∙ ap (λ (c : Cause). link_behind (first_link c) one.turn.deeds) one.is_cause))
    (all_not_up Same one.turn.deeds (subst SeekNone (sym gives.0) (connected_seeks_none old.session.standing old.session.standing.state)) tt)

-- nothing happened to the connection
pub left_as_it_is : (link : Link) (h : Hosted) → (link ≡ Same) ⊎ (link ≡ Up) → IsNotUp link → RunsFrom link h [] Same h
left_as_it_is link h (inl is) not = subst (λ (l : Link). RunsFrom l h [] Same h) (sym is) (runs_none Same h)
left_as_it_is link h (inr is) not = absurd (subst IsNotUp is not)
