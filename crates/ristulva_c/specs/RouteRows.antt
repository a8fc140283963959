-- The routes of messages in rows.
use Rattle.std.specs.Prelude.{◌≡◌, ℕ, ◌++◌, List, [], ◌∷◌, length, map, drop, Option, Some, None, if◌then◌else◌}
use Rattle.bgp_prefix.specs.Prelude.{PrefixValue}
use Rattle.bgp_update.specs.Prelude.{Parts}
use Rattle.bgp_update.specs.declared.attrs.Attrs.{Attrs}
use Rattle.bgp_msg.specs.declared.outcome.Outcome.{Outcome}
use Rattle.ristulva_c.specs.declared.facts.Paths.{Paths}
use Rattle.ristulva_c.specs.declared.prefixes.RoutePrefix.{RoutePrefix}
use Rattle.ristulva_c.specs.declared.route_rows.Place.{Place}
use Rattle.ristulva_c.specs.declared.route_rows.RouteRow.{RouteRow}
use Rattle.ristulva_c.specs.declared.span.Span.{Span}
use Rattle.ristulva_c.specs.Facts.{attrs_in, no_address, paths_told}
use Rattle.ristulva_c.specs.Judge.{number_of}
use Rattle.ristulva_c.specs.RouteList.{RouteValue, AreRoutes}

-- a span in a message, as two numbers of two octets
abbrev pub place_of : Span → Place
place_of s = record { at = s.at; len = s.len }

abbrev pub no_place : Place
no_place = record { at = 0; len = 0 }

-- a prefix, with zeros after an address of four octets
abbrev pub prefix_row : ℕ → PrefixValue → RoutePrefix
prefix_row afi p = record { afi = afi; len = p.len; addr = p.addr ++ drop (length p.addr) no_address }

-- a route that is withdrawn, by the offset and the verdict of its message: nothing is reported of attributes
abbrev pub withdrawn_row : ℕ → ℕ → RoutePrefix → RouteRow
withdrawn_row message verdict prefix = record {
  message = message;
  origin_as = 0;
  as_path = no_place;
  as4_path = no_place;
  communities = no_place;
  large_communities = no_place;
  prefix = prefix;
  announced = 0;
  verdict = verdict;
  has_origin_as = 0;
  reserved = 0 ∷ 0 ∷ 0 ∷ 0 ∷ 0 ∷ [];
}

-- a route that is announced: the spans of the paths and communities that are kept, and the origin AS
abbrev pub announced_row : ℕ → ℕ → Paths → RoutePrefix → RouteRow
announced_row message verdict paths prefix = record {
  message = message;
  origin_as = paths.origin_as;
  as_path = place_of paths.as_path;
  as4_path = place_of paths.as4_path;
  communities = place_of paths.communities;
  large_communities = place_of paths.large_communities;
  prefix = prefix;
  announced = 1;
  verdict = verdict;
  has_origin_as = paths.has_origin_as;
  reserved = 0 ∷ 0 ∷ 0 ∷ 0 ∷ 0 ∷ [];
}

abbrev pub row_by : Option Paths → ℕ → ℕ → RoutePrefix → RouteRow
row_by (Some paths) message verdict prefix = announced_row message verdict paths prefix
row_by None message verdict prefix = withdrawn_row message verdict prefix

-- the paths of an UPDATE that is accepted: no other announces
abbrev pub paths_by : Option Parts → Option Attrs → Option Paths
paths_by parts (Some a) = Some (paths_told parts a)
paths_by parts None = None

-- the row of a route
abbrev pub route_row : ℕ → ℕ → Option Paths → RouteValue → RouteRow
route_row message verdict paths r = row_by (if r.announced then paths else None) message verdict (prefix_row r.afi r.prefix)

-- the rows of a message: of each route one, in order
pub record GivesRoutes (at : ℕ) (parts : Option Parts) (o : Outcome) (rows : List RouteRow) : Type 0 where
  pub routes : List RouteValue
  pub are : AreRoutes o routes
  pub told : rows ≡ map (route_row at (number_of o) (paths_by parts (attrs_in o))) routes
