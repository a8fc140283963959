-- Large communities in sequence, by a cursor.
use Rattle.std.specs.Prelude.{◌≡◌, ◌≤◌, ◌-◌, ◌%◌, ℕ, List, length}
use Rattle.bgp_attr.specs.Prelude.{new_from}
use Rattle.ristulva_c.specs.declared.large.LargeCommunities.{LargeCommunities}
use Rattle.ristulva_c.specs.Prefixes.{between}

-- the cursor's offsets lie in the octets, and it is after whole triples
pub record IsLarge (octets : List ℕ) (cursor : LargeCommunities) : Type 0 where
  pub begun : cursor.first ≤ cursor.at
  pub in_order : cursor.at ≤ cursor.end
  pub within : cursor.end ≤ length octets
  pub whole : (cursor.at - cursor.first) % 12 ≡ 0

-- the remaining triples: those that aren't among the ones before them, from the first on
abbrev pub large_left : List ℕ → LargeCommunities → List (List ℕ)
large_left octets cursor = new_from (between octets cursor.first cursor.end) (cursor.at - cursor.first)
