use Rattle.bgp_words.proofs.Prelude.{ap, text_or_empty}
use Rattle.bgp_words.proofs.request.script_of.Goals as goal

pub returns-in-Some : goal.returns-in-Some
returns-in-Some c = ap text_or_empty c.in-Some.ensures

pub returns-in-None : goal.returns-in-None
returns-in-None c = ap text_or_empty c.in-None.ensures
