use Rattle.bgp_machine.proofs.Prelude.{◌≡◌, ◌≤◌, ◌++◌, length, take, map, drop, action_of}
use Rattle.bgp_machine.proofs.action_views.ActionViews.own.Given as goal

-- the actions already in the set and those that remain are all actions
abbrev pub invariant-all : goal.invariant-all
invariant-all l = (l.at ≤ length l.actions.items) × (take l.at l.actions.items ++ map action_of (drop l.at l.action-items) ≡ l.self)
