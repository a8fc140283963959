use Rattle.bgp_wide.proofs.Headline.{outcomes_of_pieces}
use Rattle.bgp_wide.proofs.laws.pieces_have_the_outcomes_of_their_stream.Goals as goal

pub returns : goal.returns
returns c = outcomes_of_pieces
