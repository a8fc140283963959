use Rattle.bgp_guard.proofs.Prelude.{◌≡◌, ℕ, [], Option, Some, None, sym, ap, subst, ◌∙◌, Notification, notification_of_view, message_in, answered, reset_by}
use Rattle.bgp_guard.proofs.Prelude.{CameBy, IsAnswered, done, known, option_map, placed, misplaced, refused_by, sight_with}
use Rattle.bgp_frame.specs.Prelude.{short_value}
use Rattle.bgp_guard.proofs.Sights.{over, no_room}
use Rattle.bgp_guard.proofs.handing.take.Goals as goal

pub returns-in-Some-clause-after : goal.returns-in-Some-clause-after
returns-in-Some-clause-after c =
    λ h k.
    let s = sight_with h k c.args.stage.now c.args.this.now c.args.other.now in
    let m = message_in c.args.frame in
    let is : misplaced s m.kind ≡ Some c.in-Some.subcode = sym (c.misplaced.ensures h k c.args.stage.now) ∙ c.in-Some.is in
    c.reset.ensures.after h k
    ∙ ap (λ (n : Notification). answered s (reset_by n)) (c.view.ensures ∙ c.unexpected-why.ensures)
    ∙ sym (ap (λ (o : Option ℕ). done c.args.silent s m.kind (placed c.args.rules.now s m o)) is)

pub returns-in-Some-clause-told : goal.returns-in-Some-clause-told
returns-in-Some-clause-told c =
    λ h k.
    let s = sight_with h k c.args.stage.now c.args.this.now c.args.other.now in
    let m = message_in c.args.frame in
    let is : misplaced s m.kind ≡ Some c.in-Some.subcode = sym (c.misplaced.ensures h k c.args.stage.now) ∙ c.in-Some.is in
    subst (λ (o : Option ℕ). CameBy c.args.silent s m (placed c.args.rules.now s m o) c.reset.result) (sym is)
    (subst (λ (n : Notification). IsAnswered n c.reset.result) (c.view.ensures ∙ c.unexpected-why.ensures) c.reset.ensures.told)

pub returns-in-Some-clause-room : goal.returns-in-Some-clause-room
returns-in-Some-clause-room c =
    let ends = over (sight_with [] [] c.args.stage.now c.args.this.now c.args.other.now) (sight_with [] [] c.reset.new.stage c.reset.new.this c.reset.new.other)
    (reset_by (notification_of_view c.view.result)) (c.reset.ensures.after [] []) in
    (no_room c.reset.new.stage c.reset.new.this.way ends, no_room c.reset.new.stage c.reset.new.other.way ends)

pub returns-in-Some-refused_by-clause-after : goal.returns-in-Some-refused_by-clause-after
returns-in-Some-refused_by-clause-after c =
    λ h k.
    let s = sight_with h k c.args.stage.now c.args.this.now c.args.other.now in
    let m = message_in c.args.frame in
    let is : misplaced s m.kind ≡ None = sym (c.misplaced.ensures h k c.args.stage.now) ∙ c.in-None.is in
    let why : refused_by s m.kind m.body ≡ Some (short_value c.in-Some-refused_by.why) =
    sym (c.refused_by.ensures h k c.args.stage.now) ∙ ap (option_map short_value) c.in-Some-refused_by.is in
    c.reset-in-Some-refused_by.ensures.after h k
    ∙ ap (λ (n : Notification). answered s (reset_by n)) c.view-in-Some-refused_by.ensures
    ∙ sym (ap (λ (o : Option ℕ). done c.args.silent s m.kind (placed c.args.rules.now s m o)) is
    ∙ ap (λ (o : Option Notification). done c.args.silent s m.kind (known c.args.rules.now s m o)) why)

pub returns-in-Some-refused_by-clause-room : goal.returns-in-Some-refused_by-clause-room
returns-in-Some-refused_by-clause-room c =
    let reset = c.reset-in-Some-refused_by in
    let ends = over (sight_with [] [] c.args.stage.now c.args.this.now c.args.other.now) (sight_with [] [] reset.new.stage reset.new.this reset.new.other)
    (reset_by (notification_of_view c.view-in-Some-refused_by.result)) (reset.ensures.after [] []) in
    (no_room reset.new.stage reset.new.this.way ends, no_room reset.new.stage reset.new.other.way ends)
