use Rattle.ristulva_c.proofs.Below.{◌≡◌, ◌==◌, length, find, tlvs_left, placed_tlvs}
use Rattle.ristulva_c.proofs.places.first_of_type.Given as goal

-- the first among those that remain is the first of all
abbrev pub invariant-field : goal.invariant-field
invariant-field l = find (λ q. q.tlv.kind == l.kind) (tlvs_left l.tlvs) ≡ find (λ q. q.tlv.kind == l.kind) (placed_tlvs l.field)

abbrev pub decreases-field : goal.decreases-field
decreases-field l = length (tlvs_left l.tlvs)
