use Rattle.bgp_frame.specs.Prelude.{plain, wide_types}
use Rattle.bgp_frame.specs.steps.AreTypes.{plain-are, wide-are}
use Rattle.bgp_frame.proofs.FrameLemmas.{one_count}
use Rattle.bgp_frame.proofs.laws.one_count_is_taken.Goals as goal

pub returns-clause-plain : goal.returns-clause-plain
returns-clause-plain c = one_count plain plain-are

pub returns-clause-wide : goal.returns-clause-wide
returns-clause-wide c = λ g. one_count (wide_types g) (wide-are g)
