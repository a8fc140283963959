use Rattle.std.proofs.Common.{sym, ◌∙◌}
use Rattle.bgp_attr.specs.Prelude.{as_numbers_left, wire_segment}
use Rattle.bgp_attr.proofs.SegmentSteps.{segment_shorter, kept_first, kept_later, none_kept}
use Rattle.bgp_attr.proofs.first_kept.first_kept.Goals as goal

pub returns-in-Some-kind_of : goal.returns-in-Some-kind_of
returns-in-Some-kind_of c =
    sym c.path.invariant
    ∙ kept_first c.args.form c.path.rest.now (wire_segment c.args.form.wide c.in-Some.raw) c.in-Some.after.now c.in-Some.ensures c.in-Some-kind_of.kind c.in-Some-kind_of.ensures
    (as_numbers_left c.new-numbers.result) c.new-numbers.ensures

pub path-smaller : goal.path-smaller
path-smaller c = segment_shorter c.args.form c.path.rest.now _ c.in-Some.after.now c.in-Some.ensures

pub path-preserved : goal.path-preserved
path-preserved c =
    sym (kept_later c.args.form c.path.rest.now (wire_segment c.args.form.wide c.in-Some.raw) c.in-Some.after.now c.in-Some.ensures c.in_default-kind_of.ensures) ∙ c.path.invariant

pub returns : goal.returns
returns c = sym c.path.invariant ∙ none_kept c.args.form c.path.rest.now c.in_default.ensures
