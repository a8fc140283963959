use Rattle.std.proofs.Common.{◌≡◌, ◌||◌, ℕ, true, length}
use Rattle.std.specs.Prelude.{◌==◌}
use Rattle.std.specs.List.{list_all, list_any}
use Rattle.bgp_attr.specs.Prelude.{tlvs_left}
use Rattle.bgp_update.specs.Prelude.{field_marks, is_small, types_of_field, AreOf, marks_ahead, seen_by, summary_value, summary_behind, summary_of}
use Rattle.bgp_update.proofs.summary.Summary.sum_up.Given as goal

-- those so far and those left are all, and so are their types; and what is kept is of this field
abbrev pub invariant-field : goal.invariant-field
invariant-field l =
    (summary_behind (summary_value l.self) (marks_ahead l.ctx l.has_nlri l.field (seen_by l.self.kept l.others) l.tlvs) ≡ summary_of (field_marks l.ctx l.has_nlri l.field))
    × ((kind : ℕ) → (seen_by l.self.kept l.others kind || list_any (λ q. q.tlv.kind == kind) (tlvs_left l.tlvs)) ≡ types_of_field l.field kind)
    × (list_all is_small (tlvs_left l.tlvs) ≡ true)
    × (l.tlvs.field.now ≡ l.field)
    × AreOf l.self.kept l.ctx l.has_nlri l.field

abbrev pub decreases-field : goal.decreases-field
decreases-field l = length (tlvs_left l.tlvs)
