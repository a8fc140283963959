use Rattle.bgp_wire.proofs.Std.{List, ℕ, ap}
use Rattle.bgp_prefix.specs.Prelude.{PrefixValue}
use Rattle.bgp_paths.proofs.Same.{runs_same, runs_whole}
use Rattle.bgp_paths.proofs.laws.runs_lose_their_identifiers_alone.Goals as goal

pub returns-clause-prefixes : goal.returns-clause-prefixes
returns-clause-prefixes c = λ width b octets. ap (λ (q : List PrefixValue × List ℕ). q.0) (runs_same width b octets)

pub returns-clause-whole : goal.returns-clause-whole
returns-clause-whole c = runs_whole
