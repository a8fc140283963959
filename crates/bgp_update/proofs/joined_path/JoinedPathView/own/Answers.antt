use Rattle.bgp_wire.proofs.Std.{List, ap}
use Rattle.bgp_attr.specs.declared.path.Segment.{Segment}
use Rattle.bgp_attr.specs.Prelude.{segment_value}
use Rattle.bgp_update.specs.Prelude.{joined_value, joined_left}
use Rattle.bgp_update.proofs.Lists.{one_taken, none_left}
use Rattle.bgp_update.proofs.joined_path.JoinedPathView.own.Goals as goal

pub path-preserved : goal.path-preserved
path-preserved c =
    one_taken c.path.segments (joined_left c.path.left) (joined_value c.args.self).segments c.path.invariant
    (segment_value c.in-Some.segment) (joined_left c.next.new.self) c.push_own.new.to c.in-Some.ensures.steps c.in_ok-push_own.ensures

pub returns : goal.returns
returns c = ap (λ (ss : List Segment). record { segments = ss }) (none_left c.path.segments (joined_left c.path.left) (joined_value c.args.self).segments c.path.invariant c.in_default.ensures.steps.0)
