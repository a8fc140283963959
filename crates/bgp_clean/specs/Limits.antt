-- Which announcements the owner's limits refuse: their routes are withdrawn.
use Rattle.std.specs.Prelude.{ℕ, ◌+◌, Bool, false, not, ◌&&◌, ◌||◌, ◌==◌, nat_lt, List, [], ◌∷◌, length, Option, None, Some, is_none}
use Rattle.bgp_open.specs.declared.context.Context.{Context}
use Rattle.bgp_prefix.specs.declared.as_number.AsNumber.{AsNumber}
use Rattle.bgp_attr.specs.declared.communities.Communities.{Communities}
use Rattle.bgp_attr.specs.declared.path.AsPath.{AsPath}
use Rattle.bgp_attr.specs.declared.path.Segment.{Segment}
use Rattle.bgp_attr.specs.declared.path.SegKind.{SegKind}
use Rattle.bgp_attr.specs.declared.path.SegKind.TheVariants.{Set, Seq}
use Rattle.bgp_update.specs.declared.update.Update.{Update}
use Rattle.bgp_update.specs.Prelude.{written_body}
use Rattle.bgp_clean.specs.declared.limits.Limits.{Limits}
use Rattle.bgp_clean.specs.NextHops.{has_host_hops}

-- no limit is set
abbrev pub no_limits : Limits
no_limits = record { host_next_hops = false; local_pref = false; first_as = None; longest_path = None; most_communities = None; room = 0 }

-- more than the owner allows, where a limit is set
abbrev pub is_above : Option ℕ → ℕ → Bool
is_above None n = false
is_above (Some most) n = nat_lt most n

-- the AS numbers of a path, those of sets too
abbrev pub numbers_in : List Segment → ℕ
numbers_in [] = 0
numbers_in (s ∷ later) = length s.numbers + numbers_in later

abbrev pub path_length : Option AsPath → ℕ
path_length None = 0
path_length (Some p) = numbers_in p.segments

abbrev pub community_count : Option Communities → ℕ
community_count None = 0
community_count (Some c) = length c.values

-- ---- the first AS (RFC 4271, section 6.3): that of the neighbour, in a sequence

abbrev pub is_sequence_from : ℕ → SegKind → List AsNumber → Bool
is_sequence_from number Set numbers = false
is_sequence_from number Seq [] = false
is_sequence_from number Seq (n ∷ later) = n.0 == number

abbrev pub begins_with : ℕ → List Segment → Bool
begins_with number [] = false
begins_with number (s ∷ later) = is_sequence_from number s.kind s.numbers

abbrev pub is_from : ℕ → Option AsPath → Bool
is_from number None = false
is_from number (Some p) = begins_with number p.segments

abbrev pub is_from_another : Option ℕ → Option AsPath → Bool
is_from_another None path = false
is_from_another (Some number) path = not (is_from number path)

-- ---- what isn't passed on

-- the attributes of an announcement violate the limits
abbrev pub breaks : Limits → Update → Bool
breaks l u =
    (l.host_next_hops && not (has_host_hops u)) || (
    (l.local_pref && is_none u.attrs.local_pref) || (
    is_from_another l.first_as u.attrs.as_path || (
    is_above l.longest_path (path_length u.attrs.as_path) ||
    is_above l.most_communities (community_count u.attrs.communities))))

-- the message, with its header of 19 octets, leaves fewer of 4096 octets free than the limit
abbrev pub leaves_no_room : Limits → Context → Update → Bool
leaves_no_room l ctx u = nat_lt 4077 (length (written_body ctx u) + l.room)

-- the announcement is refused: its routes are withdrawn
abbrev pub refuses_in : Context → Limits → Update → Bool
refuses_in ctx l u = breaks l u || leaves_no_room l ctx u
