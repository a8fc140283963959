use Rattle.std.proofs.Common.{◌≡◌, length}
use Rattle.bgp_attr.specs.Prelude.{tlvs_of}
use Rattle.bgp_attr.proofs.first_tlv.skip_tlvs.Given as goal

-- what is left has the same rest
abbrev pub invariant-field : goal.invariant-field
invariant-field l = (tlvs_of l.rest).1 ≡ (tlvs_of l.octets).1

abbrev pub decreases-field : goal.decreases-field
decreases-field l = length l.rest
