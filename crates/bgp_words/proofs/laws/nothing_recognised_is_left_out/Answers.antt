use Rattle.bgp_words.proofs.Prelude.{subcommand_of, bgp_command}
use Rattle.bgp_words.proofs.LeftOut.{are_unrecognised}
use Rattle.bgp_words.proofs.laws.nothing_recognised_is_left_out.Goals as goal

pub returns : goal.returns
returns c words types e = are_unrecognised (subcommand_of bgp_command words) types e
