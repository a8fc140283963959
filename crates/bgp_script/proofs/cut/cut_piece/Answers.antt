use Rattle.std.proofs.Common.{sym}
use Rattle.bgp_script.proofs.Cuts.{piece-Some, piece-None}
use Rattle.bgp_script.proofs.cut.cut_piece.Goals as goal

pub returns-in-Some : goal.returns-in-Some
returns-in-Some c = piece-Some c.args.mark c.in-Some.place c.args.text.now (sym c.in-Some.ensures.place)

pub returns-in-None : goal.returns-in-None
returns-in-None c = piece-None c.args.mark c.args.text.now (sym c.in-None.ensures.place)
