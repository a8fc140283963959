use Rattle.bgp_guard.proofs.Prelude.{ℕ, [], List, Option, Result, sym, ap, subst, ◌∙◌, HeadFault, Framed, WaitsIn, notification_of_view, message_in, Notification}
use Rattle.bgp_guard.proofs.Prelude.{content_of-frame, content_of-fault, nothing_waits, answered, reset_by, CameOf, IsAnswered, heard_as, holding, sight_of}
use Rattle.bgp_guard.proofs.Prelude.{sight_with}
use Rattle.bgp_guard.proofs.Sights.{over, no_room}
use Rattle.bgp_guard.proofs.hearing.settle.Goals as goal
use Rattle.bgp_guard.specs.Guard.{types}
use Rattle.bgp_guard.proofs.Types.{types-are}

pub returns-in-Frame-clause-settled : goal.returns-in-Frame-clause-settled
returns-in-Frame-clause-settled c =
    let s = sight_of c.args.stage.now c.args.this.now c.args.other.now in
    let m = message_in c.in-Frame.frame in
    let content = content_of-frame types types-are m c.args.this.now.framer c.in-Frame.ensures.0 in
    record {
      after =
          ap (λ (h : List ℕ). sight_with h c.args.other.now.framer c.take-came.new.stage c.take-came.new.this c.take-came.new.other) c.clear.ensures
          ∙ c.take-came.ensures.after [] c.args.other.now.framer
          ∙ sym (ap (heard_as c.args.rules.now c.args.silent s) content);
      told =
          subst (λ (x : Option (Result Framed HeadFault)). CameOf c.args.rules.now c.args.silent (holding s []) x c.take-came.result) (sym content)
          (c.take-came.ensures.told [] c.args.other.now.framer);
    }

pub returns-in-Frame-clause-waits : goal.returns-in-Frame-clause-waits
returns-in-Frame-clause-waits c = subst (WaitsIn types) (sym c.clear.ensures) (nothing_waits types types-are)

pub returns-in-Fault-clause-settled : goal.returns-in-Fault-clause-settled
returns-in-Fault-clause-settled c =
    let s = sight_of c.args.stage.now c.args.this.now c.args.other.now in
    let k = c.args.other.now.framer in
    let shows = c.in-Fault.ensures in
    let content = content_of-fault types types-are c.args.this.now.framer c.in-Fault.fault shows.0 shows.1 in
    let same = c.view.ensures ∙ c.answer-why.ensures in
    record {
      after =
          ap (λ (h : List ℕ). sight_with h k c.reset.new.stage c.reset.new.this c.reset.new.other) c.clear-in-Fault.ensures
          ∙ c.reset.ensures.after [] k
          ∙ ap (λ (n : Notification). answered (holding s []) (reset_by n)) same
          ∙ sym (ap (heard_as c.args.rules.now c.args.silent s) content);
      told =
          subst (λ (x : Option (Result Framed HeadFault)). CameOf c.args.rules.now c.args.silent (holding s []) x c.reset.result) (sym content)
          (subst (λ (n : Notification). IsAnswered n c.reset.result) same c.reset.ensures.told);
    }

pub returns-in-Fault-clause-waits : goal.returns-in-Fault-clause-waits
returns-in-Fault-clause-waits c = subst (WaitsIn types) (sym c.clear-in-Fault.ensures) (nothing_waits types types-are)

pub returns-in-Fault-clause-room : goal.returns-in-Fault-clause-room
returns-in-Fault-clause-room c =
    let ends = over (sight_with [] [] c.args.stage.now c.args.this.now.line c.args.other.now.line) (sight_with [] [] c.reset.new.stage c.reset.new.this c.reset.new.other)
    (reset_by (notification_of_view c.view.result)) (c.reset.ensures.after [] []) in
    (no_room c.reset.new.stage c.reset.new.this.way ends, no_room c.reset.new.stage c.reset.new.other.way ends)
