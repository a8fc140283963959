use Rattle.bgp_guard.proofs.Prelude.{ℕ, List, [], ◌++◌, length, sym, ap, ◌∙◌, arith, half_with, length-append}
use Rattle.bgp_guard.proofs.Sights.{due_empty, kept_due, kept_on}
use Rattle.bgp_guard.proofs.keeping.keep.Goals as goal

pub returns-then-is_due-clause-kept : goal.returns-then-is_due-clause-kept
returns-then-is_due-clause-kept c =
    λ held.
    kept_due c.args.hold (half_with held c.args.line.now) c.saturating_add-line.result c.is_due.result c.saturating_add-line.ensures (c.is_due.ensures held)
    c.put.new.self c.if-is_due.true (c.put.ensures ∙ ap (λ (x : List ℕ). c.args.line.now.way ++ x) c.head.ensures.header)

pub returns-then-is_due-clause-room : goal.returns-then-is_due-clause-room
returns-then-is_due-clause-room c =
    let none = ap length (due_empty c.args.hold (record (half_with [] c.args.line.now) { quiet = c.saturating_add-line.result }) (sym (c.is_due.ensures []) ∙ c.if-is_due.true)) in
    omega (arith, none, ap length c.put.ensures, length-append c.args.line.now.way c.head.result, ap length c.head.ensures.header)

pub returns-else-is_due-clause-kept : goal.returns-else-is_due-clause-kept
returns-else-is_due-clause-kept c =
    λ held.
    kept_on c.args.hold (half_with held c.args.line.now) c.saturating_add-line.result c.is_due.result c.saturating_add-line.ensures (c.is_due.ensures held) c.if-is_due.false
