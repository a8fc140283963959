-- Offsets of a cursor over large communities.
use Rattle.std.proofs.Common.{◌≡◌, ℕ, ◌+◌, ◌-◌, ◌%◌, ◌≤◌, List, ◌∷◌, length, take, Some, sym, ap, ap₂, ◌∙◌, arith, length-take}
use Rattle.bgp_wire.proofs.Behinds.{pieces-whole, Row-pieces}
use Rattle.bgp_attr.specs.Prelude.{IsTriple, one_triple, triples_of, once_behind, each_once, IsRowUpTo, new_from, GivesNew}
use Rattle.bgp_attr.proofs.Readers.{IsTriple-reads}
use Rattle.bgp_attr.proofs.LargeSteps.{no_triples}
use Rattle.bgp_attr.proofs.NumberRows.{triple_row-whole, length-triple_row}
use Rattle.ristulva_c.specs.declared.large.LargeCommunities.{LargeCommunities}
use Rattle.ristulva_c.specs.Prelude.{between, IsLarge, large_left}
use Rattle.ristulva_c.proofs.Between.{length_between}

-- a multiple of twelve octets is a sequence of triples
pub row_up_to : (b : List ℕ) (at : ℕ) → at ≤ length b → at % 12 ≡ 0 → IsRowUpTo b at
row_up_to b at le whole =
    let len : length (take at b) ≡ at = omega (arith, length-take at b, le) in
    record {
      within = le;
      row = ap (λ (q : List (List ℕ) × List ℕ). q.1)
          (pieces-whole (List ℕ) IsTriple one_triple IsTriple-reads (triples_of (take at b)) (take at b) (triple_row-whole (take at b) (ap (λ (n : ℕ). n % 12) len ∙ whole)));
    }

-- and a sequence of triples has a multiple of twelve octets
pub twelve_by_twelve : (b : List ℕ) (at : ℕ) → IsRowUpTo b at → at % 12 ≡ 0
twelve_by_twelve b at up =
    let row = Row-pieces (List ℕ) IsTriple one_triple IsTriple-reads (take at b) (triples_of (take at b)) (ap (λ (r : List ℕ). (triples_of (take at b), r)) up.row) in
    omega (arith, length-take at b, up.within, length-triple_row (triples_of (take at b)) (take at b) row)

-- from the first on, each is new where it occurs first
pub new_from_first : (b : List ℕ) → new_from b 0 ≡ each_once (triples_of b)
new_from_first b = ap (λ (q : List (List ℕ) × List ℕ). once_behind q.0 (triples_of b)) no_triples

module _ (octets : List ℕ) (cursor : LargeCommunities) where
  pub left_at_first : cursor.at ≡ cursor.first → large_left octets cursor ≡ each_once (triples_of (between octets cursor.first cursor.end))
  left_at_first same = ap (new_from (between octets cursor.first cursor.end)) (let none : cursor.at - cursor.first ≡ 0 = omega (arith, same) in none) ∙ new_from_first (between octets cursor.first cursor.end)

  module _ (value : List ℕ) (is : value ≡ between octets cursor.first cursor.end) (lies : IsLarge octets cursor) where
    value_ends : length value + cursor.first ≡ cursor.end
    value_ends = ap (λ (b : List ℕ). length b + cursor.first) is ∙ length_between octets cursor.first cursor.end (omega (arith, lies.begun, lies.in_order)) lies.within

    pub row_behind : IsRowUpTo value (cursor.at - cursor.first)
    row_behind = row_up_to value (cursor.at - cursor.first) (omega (arith, value_ends, lies.begun, lies.in_order)) lies.whole

    -- what remains after a new triple
    pub large_behind : (triple : List ℕ) (at : ℕ) → GivesNew value (cursor.at - cursor.first) (Some (triple, at))
        → (large_left octets cursor ≡ triple ∷ large_left octets (record cursor { at = cursor.first + at })) × IsLarge octets (record cursor { at = cursor.first + at })
    large_behind triple at given =
        let back : (cursor.first + at) - cursor.first ≡ at = omega arith in (
          ap (λ (b : List ℕ). new_from b (cursor.at - cursor.first)) (sym is) ∙ given.0
              ∙ ap₂ (λ (b : List ℕ) (n : ℕ). triple ∷ new_from b n) is (sym back),
          record {
            begun = omega arith;
            in_order = omega (arith, value_ends, given.1.within);
            within = lies.within;
            whole = ap (λ (n : ℕ). n % 12) back ∙ twelve_by_twelve value at given.1;
          },
        )
