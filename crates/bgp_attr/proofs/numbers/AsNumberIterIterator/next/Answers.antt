use Rattle.std.proofs.Common.{◌≡◌, [], rules}
use Rattle.bgp_attr.specs.Prelude.{as_numbers_left}
use Rattle.bgp_attr.proofs.NumberSteps.{as_number_then, no_as_number}
use Rattle.bgp_attr.proofs.numbers.AsNumberIterIterator.next.Goals as goal

pub returns-in_err-number-clause-steps : goal.returns-in_err-number-clause-steps
returns-in_err-number-clause-steps c =
    let none : as_numbers_left c.args.self.now ≡ [] = no_as_number c.args.self.now.wide c.args.self.now.rest.now c.in_err-number.ensures in
    rw c.from_residual.ensures (none, none)

pub returns-clause-steps : goal.returns-clause-steps
returns-clause-steps c = as_number_then c.args.self.now.wide c.args.self.now.rest.now _ _ c.in_ok-number.ensures

pub returns-clause-goes : goal.returns-clause-goes
returns-clause-goes c =
    let steps = as_number_then c.args.self.now.wide c.args.self.now.rest.now _ _ c.in_ok-number.ensures in
    search rules
