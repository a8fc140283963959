use Rattle.bgp_fields.proofs.Prelude.{◌≡◌, ◌-◌, ◌++◌, length, true, list_all, has_octet, tlvs_left, rest_left, marks_behind, cut_mark, field_marks, is_small}
use Rattle.bgp_fields.proofs.Prelude.{first_asking}
use Rattle.bgp_fields.proofs.asking.first_asking.Given as goal

-- the first one in what is left is the first of all
abbrev pub invariant-field : goal.invariant-field
invariant-field l = record {
  same : first_asking l.resets (marks_behind l.ctx l.has_nlri (has_octet l.seen) (tlvs_left l.tlvs)
      ++ cut_mark (length l.field - length (rest_left l.tlvs)) (rest_left l.tlvs)) ≡ first_asking l.resets (field_marks l.ctx l.has_nlri l.field);
  small : list_all is_small (tlvs_left l.tlvs) ≡ true;
  next : (goal.iterator-field).can_next l.tlvs;
  finite : (goal.iterator-field).is_finite l.tlvs;
}
