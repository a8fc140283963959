use Rattle.std.proofs.Common.{List}
use Rattle.bgp_wire.proofs.Pieces.{Reads-prefix_free}
use Rattle.bgp_open.specs.declared.capability.Capability.{Capability}
use Rattle.bgp_open.specs.Prelude.{IsParameter, one_parameter}
use Rattle.bgp_open.proofs.Parameters.{parameter-reads}
use Rattle.bgp_open.proofs.laws.parameters_are_prefix_free.Goals as goal

pub returns : goal.returns
returns c = Reads-prefix_free (List Capability) IsParameter one_parameter parameter-reads
