use Rattle.bgp_wire.proofs.Std.{◌≡◌, ◌++◌, length, flat_map}
use Rattle.bgp_attr.specs.Prelude.{rest_left, tlvs_left}
use Rattle.bgp_paths.specs.Prelude.{field_numbers, field_with, octets_with}
use Rattle.bgp_paths.proofs.path_field.put_field_with.Given as goal

-- what is written so far, and the attributes that are left, are what was there and all the attributes; what follows them stays
abbrev pub invariant-field : goal.invariant-field
invariant-field l =
    l.out ++ (flat_map (λ p. octets_with l.families (field_numbers l.numbers) p.tlv) (tlvs_left l.tlvs) ++ rest_left l.tlvs) ≡ l.initial.out ++ field_with l.families (field_numbers l.numbers) l.field

abbrev pub decreases-field : goal.decreases-field
decreases-field l = length (tlvs_left l.tlvs)
