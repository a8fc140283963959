-- The values of a borrowed path and aggregator.
use Rattle.std.specs.Prelude.{List, ◌++◌, option_map}
use Rattle.bgp_attr.specs.Prelude.{path_value, segments_left}
use Rattle.bgp_attr.specs.declared.path.Segment.{Segment}
use Rattle.bgp_attr.specs.declared.path.AsPath.{AsPath}
use Rattle.bgp_update.specs.As4.{lead}
use Rattle.bgp_update.specs.declared.joined_path.JoinedPathView.{JoinedPathView}
use Rattle.bgp_update.specs.declared.joined_path.JoinedSegmentIter.{JoinedSegmentIter}
use Rattle.bgp_update.specs.declared.path_info.PathInfo.{PathInfo}
use Rattle.bgp_update.specs.declared.path_info_view.PathInfoView.{PathInfoView}

-- the first items of one path, and then another
abbrev pub joined_value : JoinedPathView → AsPath
joined_value p = record { segments = lead p.items (path_value p.leading).segments ++ (path_value p.behind).segments }

-- the segments not yet returned
abbrev pub joined_left : JoinedSegmentIter → List Segment
joined_left it = lead it.items (segments_left it.leading) ++ segments_left it.behind

abbrev pub info_value : PathInfoView → PathInfo
info_value v = record { path = option_map joined_value v.path; aggregator = v.aggregator }
