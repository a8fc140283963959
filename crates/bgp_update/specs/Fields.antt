-- The fields of a message's attributes: one for each recognised type, filled from an attribute of it, and the attribute of a field.
use Rattle.std.specs.Prelude.{ℕ, Bool, true, false, List, [], ◌∷◌, Option, None, Some, is_some, if◌then◌else◌}
use Rattle.bgp_numbers.specs.declared.attribute.TheConstants as attribute
use Rattle.bgp_wire.specs.Prelude.{◌>>=◌}
use Rattle.bgp_attr.specs.declared.attr.Attr.{Attr}
use Rattle.bgp_attr.specs.declared.attr.Attr.TheVariants as attr
use Rattle.bgp_attr.specs.declared.communities.Communities.{Communities}
use Rattle.bgp_attr.specs.declared.communities.LargeCommunities.{LargeCommunities}
use Rattle.bgp_attr.specs.declared.mp.MpReach.{MpReach}
use Rattle.bgp_attr.specs.declared.mp.MpUnreach.{MpUnreach}
use Rattle.bgp_attr.specs.declared.opaque.Opaque.{Opaque}
use Rattle.bgp_attr.specs.declared.path.As4Path.{As4Path}
use Rattle.bgp_attr.specs.declared.path.AsPath.{AsPath}
use Rattle.bgp_update.specs.declared.attrs.Attrs.{Attrs}

-- ---- the value of an attribute, where it is of this type: of those that are needed elsewhere too

abbrev pub as_as_path : Attr → Option AsPath
as_as_path = elim [ attr.AsPath p ↦ Some p | _ ↦ None ]

abbrev pub as_communities : Attr → Option Communities
as_communities = elim [ attr.Communities c ↦ Some c | _ ↦ None ]

abbrev pub as_mp_reach : Attr → Option MpReach
as_mp_reach = elim [ attr.MpReach r ↦ Some r | _ ↦ None ]

abbrev pub as_mp_unreach : Attr → Option MpUnreach
as_mp_unreach = elim [ attr.MpUnreach r ↦ Some r | _ ↦ None ]

abbrev pub as_as4_path : Attr → Option As4Path
as_as4_path = elim [ attr.As4Path p ↦ Some p | _ ↦ None ]

abbrev pub as_large : Attr → Option LargeCommunities
as_large = elim [ attr.Large l ↦ Some l | _ ↦ None ]

-- an attribute of an unrecognised type
abbrev pub is_opaque : Attr → Bool
is_opaque (attr.Opaque o) = true
is_opaque _ = false

abbrev pub as_opaque : Attr → List Opaque
as_opaque (attr.Opaque o) = o ∷ []
as_opaque _ = []

-- ---- the fields

-- the attributes, where these are those of the recognised types, and the others
unfoldable pub attrs_from : (ℕ → Option Attr) → List Opaque → Attrs
attrs_from first others = record {
  origin = first attribute.ORIGIN >>= elim [ attr.Origin o ↦ Some o | _ ↦ None ];
  as_path = first attribute.AS_PATH >>= as_as_path;
  next_hop = first attribute.NEXT_HOP >>= elim [ attr.NextHop addr ↦ Some addr | _ ↦ None ];
  med = first attribute.MULTI_EXIT_DISC >>= elim [ attr.Med n ↦ Some n | _ ↦ None ];
  local_pref = first attribute.LOCAL_PREF >>= elim [ attr.LocalPref n ↦ Some n | _ ↦ None ];
  atomic = is_some (first attribute.ATOMIC_AGGREGATE);
  aggregator = first attribute.AGGREGATOR >>= elim [ attr.Aggregator a ↦ Some a | _ ↦ None ];
  communities = first attribute.COMMUNITIES >>= as_communities;
  mp_reach = first attribute.MP_REACH_NLRI >>= as_mp_reach;
  mp_unreach = first attribute.MP_UNREACH_NLRI >>= as_mp_unreach;
  as4_path = first attribute.AS4_PATH >>= as_as4_path;
  as4_aggregator = first attribute.AS4_AGGREGATOR >>= elim [ attr.As4Aggregator a ↦ Some a | _ ↦ None ];
  large = first attribute.LARGE_COMMUNITY >>= as_large;
  others = others;
}

-- the attribute where there is one
abbrev pub present : {A : Type 0} → (A → Attr) → Option A → List Attr
present as_attr None = []
present as_attr (Some value) = as_attr value ∷ []

-- the slots of the recognised types
abbrev pub slots : Attrs → List (ℕ × List Attr)
slots a =
    (attribute.ORIGIN, present attr.Origin a.origin) ∷
    (attribute.AS_PATH, present attr.AsPath a.as_path) ∷
    (attribute.NEXT_HOP, present attr.NextHop a.next_hop) ∷
    (attribute.MULTI_EXIT_DISC, present attr.Med a.med) ∷
    (attribute.LOCAL_PREF, present attr.LocalPref a.local_pref) ∷
    (attribute.ATOMIC_AGGREGATE, if a.atomic then attr.Atomic ∷ [] else []) ∷
    (attribute.AGGREGATOR, present attr.Aggregator a.aggregator) ∷
    (attribute.COMMUNITIES, present attr.Communities a.communities) ∷
    (attribute.MP_REACH_NLRI, present attr.MpReach a.mp_reach) ∷
    (attribute.MP_UNREACH_NLRI, present attr.MpUnreach a.mp_unreach) ∷
    (attribute.AS4_PATH, present attr.As4Path a.as4_path) ∷
    (attribute.AS4_AGGREGATOR, present attr.As4Aggregator a.as4_aggregator) ∷
    (attribute.LARGE_COMMUNITY, present attr.Large a.large) ∷
    []
