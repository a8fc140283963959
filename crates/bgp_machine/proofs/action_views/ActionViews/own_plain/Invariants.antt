use Rattle.bgp_machine.proofs.Prelude.{◌≡◌, ◌++◌, map, drop, action_of}
use Rattle.bgp_machine.proofs.action_views.ActionViews.own_plain.Given as goal

-- the actions already in the set and those that remain are all actions
abbrev pub invariant-loop-action : goal.invariant-loop-action
invariant-loop-action l = l.actions.items ++ map action_of (drop l.action-index l.action-items) ≡ l.self
