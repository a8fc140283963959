-- AS numbers of four octets among 2-octet-AS speakers (RFC 6793, section 4.2).
use Rattle.std.specs.Prelude.{◌≡◌, ℕ, ◌-◌, Bool, false, ◌==◌, nat_lt, List, [], ◌∷◌, ◌++◌, length, take, map, Option, None, Some, option_map, if◌then◌else◌}
use Rattle.std.specs.List.{filter, sum_by}
use Rattle.bgp_numbers.specs.declared.TheConstants.{AS_TRANS}
use Rattle.bgp_prefix.specs.declared.as_number.AsNumber.{AsNumber}
use Rattle.bgp_attr.specs.declared.aggregator.Aggregator.{Aggregator}
use Rattle.bgp_attr.specs.declared.path.SegKind.{SegKind}
use Rattle.bgp_attr.specs.declared.path.SegKind.TheVariants.{Set, Seq}
use Rattle.bgp_attr.specs.declared.path.Segment.{Segment}
use Rattle.bgp_attr.specs.declared.path.AsPath.{AsPath}
use Rattle.bgp_attr.specs.declared.path.As4Path.{As4Path}
use Rattle.bgp_attr.specs.Prelude.{as_number, any_number, is_above_two_octets}
use Rattle.bgp_update.specs.declared.attrs.Attrs.{Attrs}
use Rattle.bgp_update.specs.declared.path_info.PathInfo.{PathInfo}
use Rattle.bgp_update.specs.declared.update.Update.{Update}

-- ---- items of a path

abbrev pub items_by : SegKind → ℕ → ℕ
items_by Set n = 1
items_by Seq n = n

-- each number of a sequence is one item, each set is one (RFC 4271, section 9.1.2.2)
abbrev pub items_in : Segment → ℕ
items_in s = items_by s.kind (length s.numbers)

abbrev pub items_of : List Segment → ℕ
items_of segments = sum_by items_in segments

-- what is left of k items after a segment
abbrev pub items_behind : ℕ → Segment → ℕ
items_behind k s = k - items_in s

-- the first k items of a segment: a set whole, a sequence as far as they go, and nothing of one with none of them
abbrev pub front_by : ℕ → SegKind → List AsNumber → List Segment
front_by k Set numbers = record { kind = Set; numbers = numbers } ∷ []
front_by k Seq [] = []
front_by k Seq (n ∷ numbers) = record { kind = Seq; numbers = take k (n ∷ numbers) } ∷ []

-- the first k items of a path, in their segments
abbrev pub lead : ℕ → List Segment → List Segment
lead k [] = []
lead k (s ∷ later) = if k == 0 then [] else front_by k s.kind s.numbers ++ lead (items_behind k s) later

-- ---- reading: the path that both attributes give (RFC 6793, section 4.2.3)

-- AS4_PATH with the surplus leading items of AS_PATH prepended; AS_PATH alone where that has fewer items than AS4_PATH
abbrev pub joined : AsPath → AsPath → AsPath
joined path wide =
    if nat_lt (items_of path.segments) (items_of wide.segments) then path else
    record { segments = lead (items_of path.segments - items_of wide.segments) path.segments ++ wide.segments }

-- AS4_PATH changes nothing where there is no AS_PATH
abbrev pub rebuilt_path : Option AsPath → Option As4Path → Option AsPath
rebuilt_path None wide = None
rebuilt_path (Some path) None = Some path
rebuilt_path (Some path) (Some wide) = Some (joined path wide.path)

abbrev pub is_as_trans : Aggregator → Bool
is_as_trans a = (a.asn).0 == AS_TRANS

-- an aggregator other than AS_TRANS shows that a 2-octet-AS speaker aggregated the route later: the AS4 attributes are void
abbrev pub rebuilt_by : Option Aggregator → Option Aggregator → Option AsPath → Option As4Path → PathInfo
rebuilt_by (Some a) (Some wide) path as4_path =
    if is_as_trans a
    then record { path = rebuilt_path path as4_path; aggregator = Some wide }
    else record { path = path; aggregator = Some a }
rebuilt_by aggregator _ path as4_path = record { path = rebuilt_path path as4_path; aggregator = aggregator }

abbrev pub rebuilt : Attrs → PathInfo
rebuilt a = rebuilt_by a.aggregator a.as4_aggregator a.as_path a.as4_path

-- ---- writing: for a 2-octet-AS peer (RFC 6793, section 4.2.2)

abbrev pub narrow_number : AsNumber → AsNumber
narrow_number n = if is_above_two_octets n.0 then as_number AS_TRANS else n

abbrev pub narrow_segment : Segment → Segment
narrow_segment s = record { kind = s.kind; numbers = map narrow_number s.numbers }

abbrev pub narrow_path : AsPath → AsPath
narrow_path p = record { segments = map narrow_segment p.segments }

-- AS4_PATH with the whole path, exactly where a number needs four octets
abbrev pub as4_path_for : AsPath → Option As4Path
as4_path_for p = if any_number is_above_two_octets p then Some (record { partial = false; path = p }) else None

abbrev pub wide_path : Option AsPath → Option As4Path
wide_path None = None
wide_path (Some p) = as4_path_for p

abbrev pub narrow_aggregator : Aggregator → Aggregator
narrow_aggregator a = record { asn = narrow_number a.asn; addr = a.addr; partial = a.partial }

abbrev pub as4_aggregator_for : Aggregator → Option Aggregator
as4_aggregator_for a = if is_above_two_octets (a.asn).0 then Some a else None

abbrev pub wide_aggregator : Option Aggregator → Option Aggregator
wide_aggregator None = None
wide_aggregator (Some a) = as4_aggregator_for a

-- the attributes as sent to such a peer
abbrev pub narrowed : Attrs → Attrs
narrowed a = record a {
  as_path = option_map narrow_path a.as_path;
  aggregator = option_map narrow_aggregator a.aggregator;
  as4_path = wide_path a.as_path;
  as4_aggregator = wide_aggregator a.aggregator;
}

-- the UPDATE as sent to a 2-octet-AS peer
abbrev pub narrowed_update : Update → Update
narrowed_update u = record u { attrs = narrowed u.attrs }

-- neither AS4_PATH nor AS4_AGGREGATOR is present
pub record HasNoAs4 (a : Attrs) : Type 0 where
  pub path : a.as4_path ≡ None
  pub aggregator : a.as4_aggregator ≡ None

-- ---- what is passed on (RFC 4271, section 5)

-- attributes of unrecognised types are passed on only where they are transitive
abbrev pub onward_attrs : Attrs → Attrs
onward_attrs a = record a { others = filter (λ o. o.transitive) a.others }

abbrev pub onward_of : Update → Update
onward_of u = record u { attrs = onward_attrs u.attrs }
