use Rattle.bgp_wire.proofs.Pieces.{Splits-pieces, pieces-Splits}
use Rattle.bgp_attr.specs.Prelude.{TlvValue, IsTlv, one_tlv}
use Rattle.bgp_attr.proofs.Readers.{IsTlv-reads}
use Rattle.bgp_attr.proofs.laws.fields_split_in_one_way.Goals as goal

pub returns : goal.returns
returns c = record {
  splits = Splits-pieces TlvValue IsTlv one_tlv IsTlv-reads;
  only = pieces-Splits TlvValue IsTlv one_tlv IsTlv-reads;
}
