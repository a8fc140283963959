use Rattle.bgp_wire.proofs.Std.{◌≡◌, eqb, find, length}
use Rattle.bgp_attr.specs.Prelude.{tlvs_left}
use Rattle.bgp_paths.specs.Prelude.{first_of_type}
use Rattle.bgp_paths.proofs.places.first_of_type.Given as goal

-- the first of those that are left is the first of all
abbrev pub invariant-field : goal.invariant-field
invariant-field l = record {
  first : find (λ q. eqb q.tlv.kind l.kind) (tlvs_left l.tlvs) ≡ first_of_type l.kind l.field;
  field : l.tlvs.field.now ≡ l.field;
}

abbrev pub decreases-field : goal.decreases-field
decreases-field l = length (tlvs_left l.tlvs)
