use Rattle.bgp_wire.proofs.Std.{ℕ, ◌*◌, sym, ap₂, ◌∙◌}
use Rattle.bgp_attr.proofs.SegmentFronts.{one_segment-short, segment_found, segment_unknown, segment_empty, segment_past}
use Rattle.bgp_attr.proofs.segment.first_segment.Goals as goal
use Rattle.bgp_attr.proofs.segment.first_segment.Goals.{then-not-is_known-via-then-not-is_known, then-not-is_known-via-else-not-is_known+then-count-eq0}

pub returns-in_default : goal.returns-in_default
returns-in_default c = sym (one_segment-short c.args.form c.args.octets.now c.in_default.len_below)

pub returns-in_default-split_at_checked : goal.returns-in_default-split_at_checked
returns-in_default-split_at_checked c = segment_past c.args.form c.args.octets.now c.in-len2-up.len_at_least (c.from.result * c.number_width.result) (ap₂ (λ (m n : ℕ). m * n) c.from.ensures c.number_width.ensures) c.in_default-split_at_checked.ensures.cases

pub returns-then-not-is_known : goal.returns-then-not-is_known
returns-then-not-is_known c =
    let fits = c.in-Some.ensures.cases.0 in
    elim c.then-not-is_known.branch [
      | then-not-is_known-via-then-not-is_known w ↦ segment_unknown c.args.form c.args.octets.now c.in-len2-up.len_at_least (c.from.result * c.number_width.result) (ap₂ (λ (m n : ℕ). m * n) c.from.ensures c.number_width.ensures) fits (sym c.is_known.ensures ∙ w.if-not-is_known.true)
      | then-not-is_known-via-else-not-is_known+then-count-eq0 w ↦ segment_empty c.args.form c.args.octets.now c.in-len2-up.len_at_least (c.from.result * c.number_width.result) (ap₂ (λ (m n : ℕ). m * n) c.from.ensures c.number_width.ensures) fits w.if-count-eq0.true
    ]

pub returns : goal.returns
returns c =
    let cut = c.in-Some.ensures.cases in
    segment_found c.args.form c.args.octets.now c.in-len2-up.len_at_least (c.from.result * c.number_width.result) (ap₂ (λ (m n : ℕ). m * n) c.from.ensures c.number_width.ensures) cut.0 (sym c.is_known.ensures ∙ c.if-not-is_known.false) c.if-count-eq0.false c.in-Some.numbers.now c.in-Some.rest.now cut.1 cut.2
