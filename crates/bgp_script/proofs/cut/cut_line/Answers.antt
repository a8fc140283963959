use Rattle.std.proofs.Common.{sym}
use Rattle.bgp_script.proofs.Cuts.{line-Some, line-None}
use Rattle.bgp_script.proofs.cut.cut_line.Goals as goal

pub returns-in-Some-clause-lines : goal.returns-in-Some-clause-lines
returns-in-Some-clause-lines c = line-Some c.args.text.now c.in-Some.place (sym c.in-Some.ensures.place)

pub returns-in-None-clause-lines : goal.returns-in-None-clause-lines
returns-in-None-clause-lines c = line-None c.args.text.now (sym c.in-None.ensures.place) c.requires
