use Rattle.std.proofs.Common.{ℕ, List}
use Rattle.bgp_wire.proofs.Pieces.{Reads-prefix_free}
use Rattle.bgp_attr.specs.Prelude.{TlvValue, IsTlv, one_tlv, IsNumber, one_number, IsTriple, one_triple, WireSegment, IsSegment, one_segment}
use Rattle.bgp_attr.proofs.Readers.{IsTlv-reads, IsNumber-reads, IsTriple-reads, IsSegment-reads}
use Rattle.bgp_attr.proofs.laws.spellings_are_prefix_free.Goals as goal

pub returns : goal.returns
returns c = record {
  attributes = Reads-prefix_free TlvValue IsTlv one_tlv IsTlv-reads;
  segments = λ form. Reads-prefix_free WireSegment (IsSegment form) (one_segment form) (IsSegment-reads form);
  numbers = λ wide. Reads-prefix_free ℕ (IsNumber wide) (one_number wide) (IsNumber-reads wide);
  triples = Reads-prefix_free (List ℕ) IsTriple one_triple IsTriple-reads;
}
