use Rattle.bgp_engine.proofs.Speakers.{agrees_as_found}
use Rattle.bgp_engine.proofs.laws.opens_agree_as_speakers_do.Goals as goal

pub returns : goal.returns
returns c = agrees_as_found
