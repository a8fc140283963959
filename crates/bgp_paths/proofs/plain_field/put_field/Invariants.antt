use Rattle.bgp_wire.proofs.Std.{◌≡◌, ◌++◌, length, flat_map}
use Rattle.bgp_attr.specs.Prelude.{rest_left, tlvs_left}
use Rattle.bgp_paths.specs.Prelude.{plain_field, plain_tlv}
use Rattle.bgp_paths.proofs.plain_field.put_field.Given as goal

-- what is written so far, and the attributes that are left, are what was there and all the attributes; what follows them stays
abbrev pub invariant-field : goal.invariant-field
invariant-field l = record {
  whole : l.out ++ (flat_map (λ p. plain_tlv l.families p.tlv) (tlvs_left l.tlvs) ++ rest_left l.tlvs) ≡ l.initial.out ++ plain_field l.families l.field;
  field : l.tlvs.field.now ≡ l.field;
}

abbrev pub decreases-field : goal.decreases-field
decreases-field l = length (tlvs_left l.tlvs)
