use Rattle.bgp_guard.proofs.Prelude.{List, refl, sym, ap, ◌∙◌, canonical_in, terms_in, flat_map, half_with, handed_to, WideMessage, said_as, sight_with}
use Rattle.bgp_guard.proofs.Sights.{handed, handed_none, said_none, said_all, same_octets, told_none, told_some}
use Rattle.bgp_guard.proofs.handing.hand_on.Goals as goal

pub returns-then-is_dropped-clause-after : goal.returns-then-is_dropped-clause-after
returns-then-is_dropped-clause-after c =
    λ h k ns is read.
    let s = sight_with h k c.args.stage.now c.args.this.now c.args.other.now in
    let none = said_none (said_as c.args.silent c.args.kind ns) (sym (c.is_dropped.ensures ns read) ∙ c.if-is_dropped.true) in
    handed c.args.silent s c.args.kind ns c.go_on.new.stage (half_with h c.go_on.new.this) _
    c.go_on.ensures.stage (c.go_on.ensures.this h ns read) (handed_none (terms_in s) (said_as c.args.silent c.args.kind ns) s.other none)

pub returns-then-is_dropped-clause-told : goal.returns-then-is_dropped-clause-told
returns-then-is_dropped-clause-told c =
    λ agreed ns is read.
    told_none agreed c.args.kind c.args.whole.now (said_as c.args.silent c.args.kind ns)
    (said_none (said_as c.args.silent c.args.kind ns) (sym (c.is_dropped.ensures ns read) ∙ c.if-is_dropped.true))

pub returns-clause-after : goal.returns-clause-after
returns-clause-after c =
    λ h k ns is read.
    let s = sight_with h k c.args.stage.now c.args.this.now c.args.other.now in
    let all = said_all c.args.silent c.args.kind ns (sym (c.is_dropped.ensures ns read) ∙ c.if-is_dropped.false) in
    handed c.args.silent s c.args.kind ns c.go_on.new.stage (half_with h c.go_on.new.this) _
    c.go_on.ensures.stage (c.go_on.ensures.this h ns read)
    (c.put_on.ensures.handed k (terms_in s) ns all.1 is ∙ ap (λ (x : List WideMessage). handed_to (terms_in s) x s.other) (sym all.0))

pub returns-clause-told : goal.returns-clause-told
returns-clause-told c =
    λ agreed ns is read.
    let all = said_all c.args.silent c.args.kind ns (sym (c.is_dropped.ensures ns read) ∙ c.if-is_dropped.false) in
    told_some agreed c.args.kind c.args.whole.now (said_as c.args.silent c.args.kind ns) ns _ all.0 all.1
    (refl, same_octets c.args.cleaned.now c.args.whole.now (flat_map (canonical_in agreed) ns) c.eq.result c.eq.ensures is)
