use Rattle.bgp_wire.proofs.Std.{◌≡◌, false, list_any}
use Rattle.bgp_attr.specs.Prelude.{path_value, segments_left, is_bad_segment, segment_octets}
use Rattle.bgp_attr.proofs.ViewWrites.{IsWriting}
use Rattle.bgp_attr.proofs.put_view.put_path.Given as goal

-- those so far are written, and each of the others has a count
abbrev pub invariant-path : goal.invariant-path
invariant-path g l = record {
  written : IsWriting (segment_octets l.wide) (path_value l.fn.path).segments (segments_left l.segment-iterator) (g.O.Output.written l.initial.out) (g.O.Output.written l.out);
  counted : list_any is_bad_segment (segments_left l.segment-iterator) ≡ false;
}
