use Rattle.bgp_paths.specs.Prelude.{width_of}
use Rattle.bgp_paths.proofs.PathBack.{paired_numbers, paired_prefixes, routes_back}
use Rattle.bgp_paths.proofs.laws.written_routes_are_read_back.Goals as goal

pub returns-clause-back : goal.returns-clause-back
returns-clause-back c = λ width ns b. routes_back (width_of width) ns b

pub returns-clause-prefixes : goal.returns-clause-prefixes
returns-clause-prefixes c = paired_prefixes

pub returns-clause-numbers : goal.returns-clause-numbers
returns-clause-numbers c = paired_numbers
