use Rattle.bgp_wire.proofs.Std.{◌≡◌, List, [], ◌∷◌, sym, ap, ◌∙◌, rules, list_any, or_parts}
use Rattle.bgp_attr.specs.declared.path.Segment.{Segment}
use Rattle.bgp_attr.specs.Prelude.{path_value, segment_value, segments_left, is_bad_segment, segment_octets}
use Rattle.bgp_attr.proofs.Parts.{on_refusal}
use Rattle.bgp_attr.proofs.ViewWrites.{one_more, no_more, stopped}
use Rattle.bgp_attr.proofs.put_view.put_path.Goals as goal

pub returns-in_err-put_segment-clause-err : goal.returns-in_err-put_segment-clause-err
returns-in_err-put_segment-clause-err g c =
    let written = g.O.Output.written in
    let later : List Segment = segments_left c.next.new.self in
    let first : segments_left c.path.segment-iterator ≡ segment_value c.in-Some.segment ∷ later = search rules in
    on_refusal c.from_residual.result (stopped (segment_octets c.args.wide) (path_value c.args.path).segments (segments_left c.path.segment-iterator) (written c.args.out.now) (written c.path.out) c.path.invariant.written g.O.Output.room (segment_value c.in-Some.segment) later (written c.put_segment.new.out) first c.in_err-put_segment.ensures.err)

pub returns-clause-ok : goal.returns-clause-ok
returns-clause-ok g c =
    let none : segments_left c.path.segment-iterator ≡ [] = search rules in
    no_more (segment_octets c.args.wide) (path_value c.args.path).segments (segments_left c.path.segment-iterator) (g.O.Output.written c.args.out.now) (g.O.Output.written c.path.out) c.path.invariant.written none

pub path-preserved : goal.path-preserved
path-preserved g c =
    let written = g.O.Output.written in
    let later : List Segment = segments_left c.next.new.self in
    let first : segments_left c.path.segment-iterator ≡ segment_value c.in-Some.segment ∷ later = search rules in
    record {
      written = one_more (segment_octets c.args.wide) (path_value c.args.path).segments (segments_left c.path.segment-iterator) (written c.args.out.now) (written c.path.out) c.path.invariant.written (segment_value c.in-Some.segment) later (written c.put_segment.new.out) first c.in_ok-put_segment.ensures.ok;
      counted = (or_parts (is_bad_segment (segment_value c.in-Some.segment)) (list_any is_bad_segment later) (ap (list_any is_bad_segment) (sym first) ∙ c.path.invariant.counted)).1;
    }
