use Rattle.bgp_attr.proofs.Readers.{IsTlv-reads, IsNumber-reads, IsTriple-reads, IsSegment-reads}
use Rattle.bgp_attr.proofs.laws.readings_are_spellings.Goals as goal

pub returns : goal.returns
returns c = record {
  attributes = IsTlv-reads;
  segments = IsSegment-reads;
  numbers = IsNumber-reads;
  triples = IsTriple-reads;
}
