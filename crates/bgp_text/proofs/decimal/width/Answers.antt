use Rattle.bgp_text.proofs.Prelude.{sym}
use Rattle.bgp_text.proofs.Decimals.{one_long, two_long, three_long, last_one, last_two, last_three}
use Rattle.bgp_text.proofs.decimal.width.Goals as goal

pub returns-then-number-lt10-clause-value : goal.returns-then-number-lt10-clause-value
returns-then-number-lt10-clause-value c = sym (one_long c.args.number c.if-number-lt10.true)

pub returns-then-number-lt10-clause-digits : goal.returns-then-number-lt10-clause-digits
returns-then-number-lt10-clause-digits c = last_one c.args.number c.if-number-lt10.true

pub returns-then-number-lt100-clause-value : goal.returns-then-number-lt100-clause-value
returns-then-number-lt100-clause-value c = sym (two_long c.args.number c.if-number-lt10.false c.if-number-lt100.true)

pub returns-then-number-lt100-clause-digits : goal.returns-then-number-lt100-clause-digits
returns-then-number-lt100-clause-digits c = last_two c.args.number c.if-number-lt10.false c.if-number-lt100.true

pub returns-else-number-lt100-clause-value : goal.returns-else-number-lt100-clause-value
returns-else-number-lt100-clause-value c = sym (three_long c.args.number c.if-number-lt100.false c.requires)

pub returns-else-number-lt100-clause-digits : goal.returns-else-number-lt100-clause-digits
returns-else-number-lt100-clause-digits c = last_three c.args.number c.if-number-lt100.false c.requires
