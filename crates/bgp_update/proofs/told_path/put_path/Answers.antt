use Rattle.bgp_wire.proofs.Std.{false, map, ap, err_from_is_err_and}
use Rattle.bgp_wire.proofs.Rooms.{extends_more}
use Rattle.bgp_attr.specs.Prelude.{path_value, segment_value, segments_left, segment_octets}
use Rattle.bgp_attr.proofs.ViewWrites.{one_more, no_more}
use Rattle.bgp_update.specs.Prelude.{narrow_path, narrow_segment}
use Rattle.bgp_update.proofs.ToldPaths.{none_bad}
use Rattle.bgp_update.proofs.told_path.put_path.Goals as goal

pub put_segment-requires : goal.put_segment-requires
put_segment-requires c =
    (none_bad (segments_left c.path.segment-iterator) (segment_value c.in-Some.segment) (segments_left c.next.new.self) c.in-Some.ensures.steps c.path.invariant.counted).0

pub path-preserved : goal.path-preserved
path-preserved c = record {
  written =
      one_more (segment_octets false) (narrow_path (path_value c.args.path)).segments (map narrow_segment (segments_left c.path.segment-iterator)) c.args.out.now.items c.path.out.items c.path.invariant.written
      (narrow_segment (segment_value c.in-Some.segment)) (map narrow_segment (segments_left c.next.new.self)) c.put_segment.new.out.items
      (ap (map narrow_segment) c.in-Some.ensures.steps) c.in_ok-put_segment.ensures.ok;
  counted =
      (none_bad (segments_left c.path.segment-iterator) (segment_value c.in-Some.segment) (segments_left c.next.new.self) c.in-Some.ensures.steps c.path.invariant.counted).1;
}

pub returns-clause-ok : goal.returns-clause-ok
returns-clause-ok c =
    no_more (segment_octets false) (narrow_path (path_value c.args.path)).segments (map narrow_segment (segments_left c.path.segment-iterator)) c.args.out.now.items c.path.out.items c.path.invariant.written
    (ap (map narrow_segment) c.in-None.ensures.steps.0)

pub returns-in_err-put_segment-clause-err : goal.returns-in_err-put_segment-clause-err
returns-in_err-put_segment-clause-err c =
    let p = err_from_is_err_and c.from_residual.result c.from_residual.ensures.1 in
    let begins = c.path.invariant.written.begins in
    rw p.1 (extends_more c.args.out.now.items c.path.out.items c.put_segment.new.out.items begins.0 begins.1 c.in_err-put_segment.ensures.err)
