use Rattle.std.proofs.Common.{◌≡◌, [], true, rules}
use Rattle.bgp_attr.specs.Prelude.{communities_left}
use Rattle.bgp_attr.proofs.NumberSteps.{number_then, no_number}
use Rattle.bgp_attr.proofs.numbers.CommIterIterator.next.Goals as goal

pub returns-in_err-community-clause-steps : goal.returns-in_err-community-clause-steps
returns-in_err-community-clause-steps c =
    let none : communities_left c.args.self.now ≡ [] = no_number true c.args.self.now.rest.now c.in_err-community.ensures in
    rw c.from_residual.ensures (none, none)

pub returns-clause-steps : goal.returns-clause-steps
returns-clause-steps c = number_then true c.args.self.now.rest.now _ _ c.in_ok-community.ensures

pub returns-clause-goes : goal.returns-clause-goes
returns-clause-goes c =
    let steps = number_then true c.args.self.now.rest.now _ _ c.in_ok-community.ensures in
    search rules
