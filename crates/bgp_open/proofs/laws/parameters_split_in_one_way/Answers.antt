use Rattle.std.proofs.Common.{List}
use Rattle.bgp_wire.proofs.Pieces.{Splits-pieces, pieces-Splits}
use Rattle.bgp_open.specs.declared.capability.Capability.{Capability}
use Rattle.bgp_open.specs.Prelude.{IsParameter, one_parameter}
use Rattle.bgp_open.proofs.Parameters.{parameter-reads}
use Rattle.bgp_open.proofs.laws.parameters_split_in_one_way.Goals as goal

pub returns : goal.returns
returns c = record {
  splits = Splits-pieces (List Capability) IsParameter one_parameter parameter-reads;
  only = pieces-Splits (List Capability) IsParameter one_parameter parameter-reads;
}
