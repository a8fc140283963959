use Rattle.bgp_script.proofs.Decimals.{printed, read_back}
use Rattle.bgp_script.proofs.laws.numbers_are_read_as_they_are_printed.Goals as goal

pub returns-clause-read : goal.returns-clause-read
returns-clause-read c n below = read_back n below

pub returns-clause-printed : goal.returns-clause-printed
returns-clause-printed c word n below is = printed word n below is
