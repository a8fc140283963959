use Rattle.bgp_session.proofs.Prelude.{◌≡◌, pair, all_acted}
use Rattle.bgp_session.proofs.acting.act_all.Given as goal

-- the remaining actions are done on the result of those so far
abbrev pub invariant-actions : goal.invariant-actions
invariant-actions l =
    all_acted l.fn.side (pair l.initial.this l.initial.other l.initial.notes) l.fn.actions.items
    ≡ all_acted l.fn.side (pair l.this l.other l.notes) l.action-iterator
