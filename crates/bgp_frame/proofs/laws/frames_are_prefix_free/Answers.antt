use Rattle.bgp_frame.specs.Prelude.{plain, wide_types}
use Rattle.bgp_frame.specs.steps.AreTypes.{plain-are, wide-are}
use Rattle.bgp_frame.proofs.Streams.{IsFrame-prefix_free}
use Rattle.bgp_frame.proofs.laws.frames_are_prefix_free.Goals as goal

pub returns-clause-plain : goal.returns-clause-plain
returns-clause-plain c = IsFrame-prefix_free plain plain-are

pub returns-clause-wide : goal.returns-clause-wide
returns-clause-wide c = λ g. IsFrame-prefix_free (wide_types g) (wide-are g)
