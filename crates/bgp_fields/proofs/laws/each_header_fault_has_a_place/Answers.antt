use Rattle.bgp_fields.proofs.PlacedHeaders.{header-placed}
use Rattle.bgp_fields.proofs.laws.each_header_fault_has_a_place.Goals as goal

pub returns : goal.returns
returns c = header-placed
