use Rattle.bgp_wire.proofs.Std.{List, map, ap, ◌∙◌}
use Rattle.bgp_attr.specs.declared.path.Segment.{Segment}
use Rattle.bgp_update.specs.Prelude.{narrow_segment}
use Rattle.bgp_update.proofs.Lists.{one_mapped, all_mapped}
use Rattle.bgp_update.proofs.two_octets.narrow_path.Goals as goal

pub path-preserved : goal.path-preserved
path-preserved c = (
  one_mapped narrow_segment c.deref-segment-items.result.now c.path.segment-index c.segment-item.result c.in_ok-narrow_segment.field-0 c.path.segments c.push.new.self
      c.path-test.true c.segment-item.is c.in_ok-narrow_segment.ensures c.path.invariant.0 c.in_ok-push.ensures.ok,
  c.path.invariant.1,
)

pub returns : goal.returns
returns c =
    ap (λ (ss : List Segment). record { segments = ss }) (all_mapped narrow_segment c.deref-segment-items.result.now c.path.segment-index c.path.segments c.path-test.false c.path.invariant.0
    ∙ ap (map narrow_segment) c.path.invariant.1)
