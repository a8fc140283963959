use Rattle.bgp_words.proofs.Prelude.{ap, ◌∙◌, is_true}
use Rattle.bgp_words.proofs.given.is_set.Goals as goal

pub returns-in-Some : goal.returns-in-Some
returns-in-Some c = c.eq.ensures ∙ ap is_true c.in-Some.ensures

pub returns-in-None : goal.returns-in-None
returns-in-None c = ap is_true c.in-None.ensures
