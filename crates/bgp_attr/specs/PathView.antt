-- The values of borrowed paths and segments.
use Rattle.std.specs.Prelude.{List}
use Rattle.bgp_attr.specs.declared.path.Segment.{Segment}
use Rattle.bgp_attr.specs.declared.path.AsPath.{AsPath}
use Rattle.bgp_attr.specs.declared.path_view.SegmentView.{SegmentView}
use Rattle.bgp_attr.specs.declared.path_view.PathView.{PathView}
use Rattle.bgp_attr.specs.declared.path_view.SegmentIter.{SegmentIter}
use Rattle.bgp_attr.specs.NumberIter.{as_numbers_left}
use Rattle.bgp_attr.specs.Path.{path_of, kept_segments_of}

abbrev pub segment_value : SegmentView → Segment
segment_value s = record { kind = s.kind; numbers = as_numbers_left s.numbers }

abbrev pub path_value : PathView → AsPath
path_value p = path_of p.form p.octets.now

-- the segments not yet returned
abbrev pub segments_left : SegmentIter → List Segment
segments_left it = kept_segments_of it.form it.rest.now
