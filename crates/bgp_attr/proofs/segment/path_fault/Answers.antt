use Rattle.std.proofs.Common.{sym, ap, ◌∙◌}
use Rattle.bgp_attr.specs.Prelude.{segment_fault}
use Rattle.bgp_attr.proofs.SegmentSteps.{segment_rest, segment_shorter, no_segment_rest}
use Rattle.bgp_attr.proofs.segment.path_fault.Goals as goal

pub path-preserved : goal.path-preserved
path-preserved c = segment_rest c.args.form c.path.rest.now _ c.in-Some.after.now c.in-Some.ensures ∙ c.path.invariant

pub path-smaller : goal.path-smaller
path-smaller c = segment_shorter c.args.form c.path.rest.now _ c.in-Some.after.now c.in-Some.ensures

pub returns : goal.returns
returns c = c.segment_fault.ensures ∙ ap (segment_fault c.args.form) (sym (no_segment_rest c.args.form c.path.rest.now c.in_default.ensures) ∙ c.path.invariant)
