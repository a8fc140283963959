use Rattle.bgp_frame.specs.Prelude.{plain, wide_types}
use Rattle.bgp_frame.specs.steps.AreTypes.{plain-are, wide-are}
use Rattle.bgp_frame.proofs.FrameLemmas.{header_iff}
use Rattle.bgp_frame.proofs.laws.headers_begin_messages.Goals as goal

pub returns-clause-plain : goal.returns-clause-plain
returns-clause-plain c = header_iff plain plain-are

pub returns-clause-wide : goal.returns-clause-wide
returns-clause-wide c = λ g. header_iff (wide_types g) (wide-are g)
