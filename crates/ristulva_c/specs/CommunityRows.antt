-- Communities and large communities in rows.
use Rattle.std.specs.Prelude.{◌≡◌, ℕ, List, [], map, slice_index, Option, Some, None}
use Rattle.bgp_attr.specs.declared.communities.Communities.{Communities}
use Rattle.bgp_attr.specs.declared.communities.LargeCommunities.{LargeCommunities}
use Rattle.bgp_update.specs.Prelude.{Parts}
use Rattle.bgp_update.specs.declared.attrs.Attrs.{Attrs}
use Rattle.bgp_msg.specs.declared.outcome.Outcome.{Outcome}
use Rattle.ristulva_c.specs.declared.community_rows.CommunityRow.{CommunityRow}
use Rattle.ristulva_c.specs.declared.community_rows.LargeRow.{LargeRow}
use Rattle.ristulva_c.specs.Facts.{attrs_in}

-- ---- communities

-- the row of a community, by the offset of its message
abbrev pub community_row : ℕ → ℕ → CommunityRow
community_row message value = record { message = message; value = value; reserved = 0 }

abbrev pub communities_told : ℕ → Option Communities → List CommunityRow
communities_told message None = []
communities_told message (Some c) = map (community_row message) c.values

-- those of an UPDATE that is accepted, in order
abbrev pub community_rows : ℕ → Option Attrs → List CommunityRow
community_rows message None = []
community_rows message (Some a) = communities_told message a.communities

abbrev pub GivesCommunities : ℕ → Option Parts → Outcome → List CommunityRow → Type 0
GivesCommunities at parts o rows = rows ≡ community_rows at (attrs_in o)

-- ---- large communities

-- its Global Administrator, and the two parts of its Local Data
abbrev pub large_row : ℕ → List ℕ → LargeRow
large_row message triple = record {
  message = message;
  global = slice_index triple 0;
  local1 = slice_index triple 1;
  local2 = slice_index triple 2;
  reserved = 0;
}

abbrev pub large_told : ℕ → Option LargeCommunities → List LargeRow
large_told message None = []
large_told message (Some l) = map (large_row message) l.values

-- those of an UPDATE that is accepted, each once, in order (RFC 8092, section 3)
abbrev pub large_rows : ℕ → Option Attrs → List LargeRow
large_rows message None = []
large_rows message (Some a) = large_told message a.large

abbrev pub GivesLarge : ℕ → Option Parts → Outcome → List LargeRow → Type 0
GivesLarge at parts o rows = rows ≡ large_rows at (attrs_in o)
