use Rattle.bgp_wire.proofs.Std.{◌≡◌, false, map, list_any}
use Rattle.bgp_attr.specs.Prelude.{path_value, segments_left, is_bad_segment, segment_octets}
use Rattle.bgp_attr.proofs.ViewWrites.{IsWriting}
use Rattle.bgp_update.specs.Prelude.{narrow_path, narrow_segment}
use Rattle.bgp_update.proofs.told_path.put_path.Given as goal

-- those so far are written, and each of the others has a count
abbrev pub invariant-path : goal.invariant-path
invariant-path l = record {
  written : IsWriting (segment_octets false) (narrow_path (path_value l.fn.path)).segments (map narrow_segment (segments_left l.segment-iterator)) l.initial.out.items l.out.items;
  counted : list_any is_bad_segment (map narrow_segment (segments_left l.segment-iterator)) ≡ false;
}
