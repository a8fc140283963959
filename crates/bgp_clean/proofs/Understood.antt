-- An OPEN with only the capabilities that are understood is valid where the whole one is.
use Rattle.bgp_clean.proofs.Prelude.{◌≡◌, ℕ, ◌+◌, ◌≤◌, Bool, true, false, ◌||◌, cond, ltb, List, [], ◌∷◌, length, refl, arith, list_any, false≢true, or_parts}
use Rattle.bgp_clean.proofs.Prelude.{or_from, ltb-false, le-ltb, length-append, IPV4, IPV6, Capability, Multi, As4, Other, Open, is_short_hold, is_zero_id}
use Rattle.bgp_clean.proofs.Prelude.{is_unicast, capability_octets, row_octets, is_misnamed, is_bad_row, is_bad, Seen, goes_on, seen_behind}
use Rattle.bgp_clean.proofs.Prelude.{understood_with, understood_behind, cleaned_open_with, seen_for}
use Rattle.bgp_numbers.specs.declared.capability.TheConstants.{ROUTE_REFRESH, ENHANCED_ROUTE_REFRESH}
use Rattle.bgp_terms.specs.declared.refreshes.Refreshes.{Refreshes}
use Rattle.bgp_terms.specs.Prelude.{offers_plain}

-- ---- no longer

row-by : (t : Bool) (c : Capability) (more later : List Capability) → length (row_octets more) ≤ length (row_octets later)
    → length (row_octets (cond t (c ∷ more) more)) ≤ length (row_octets (c ∷ later))
row-by true c more later le = omega (arith, le, length-append (capability_octets c) (row_octets more), length-append (capability_octets c) (row_octets later))
row-by false c more later le = omega (arith, le, length-append (capability_octets c) (row_octets later))

pub row-shorter : (seen : Seen) (caps : List Capability) → length (row_octets (understood_behind seen caps)) ≤ length (row_octets caps)
row-shorter seen [] = omega arith
row-shorter seen (c ∷ caps) = row-by (goes_on seen c) c (understood_behind (seen_behind seen c) caps) caps (row-shorter (seen_behind seen c) caps)

-- ---- under the same names

named-by : (t : Bool) (c : Capability) (more : List Capability) → is_misnamed c ≡ false → list_any is_misnamed more ≡ false → list_any is_misnamed (cond t (c ∷ more) more) ≡ false
named-by true c more here later = or_from (is_misnamed c) (list_any is_misnamed more) here later
named-by false c more here later = later

row-named : (seen : Seen) (caps : List Capability) → list_any is_misnamed caps ≡ false → list_any is_misnamed (understood_behind seen caps) ≡ false
row-named seen [] e = refl
row-named seen (c ∷ caps) e =
    let p = or_parts (is_misnamed c) (list_any is_misnamed caps) e in
    named-by (goes_on seen c) c (understood_behind (seen_behind seen c) caps) p.0 (row-named (seen_behind seen c) caps p.1)

pub understood_good : (offers : Refreshes) (o : Open) → is_bad o ≡ false → is_bad (cleaned_open_with offers o) ≡ false
understood_good offers o good =
    let held = or_parts (is_short_hold o.hold) (is_zero_id o.id || is_bad_row o.caps) good in
    let named = or_parts (is_zero_id o.id) (is_bad_row o.caps) held.1 in
    let row = or_parts (ltb 253 (length (row_octets o.caps))) (list_any is_misnamed o.caps) named.1 in
    let few : length (row_octets (understood_with offers o.caps)) ≤ 253 = omega (arith, ltb-false 253 (length (row_octets o.caps)) row.0, row-shorter (seen_for offers) o.caps) in
    or_from (is_short_hold o.hold) (is_zero_id o.id || is_bad_row (understood_with offers o.caps)) held.0
    (or_from (is_zero_id o.id) (is_bad_row (understood_with offers o.caps)) named.0
    (or_from (ltb 253 (length (row_octets (understood_with offers o.caps)))) (list_any is_misnamed (understood_with offers o.caps)) (le-ltb _ _ few) (row-named (seen_for offers) o.caps row.1)))

-- ---- five at most, and three of them where no ROUTE-REFRESH is offered

abbrev bit : Bool → ℕ
bit t = cond t 1 0

abbrev count : Seen → ℕ
count seen = bit seen.ip4 + (bit seen.ip6 + (bit seen.as4 + (bit seen.refresh + bit seen.enhanced)))

both-more : (a b x y : Bool) → (cond a false x || cond b false y) ≡ true → 1 + (bit a + bit b) ≤ bit (a || x) + bit (b || y)
both-more true true x y e = absurd (false≢true e)
both-more true false x true e = omega arith
both-more true false x false e = absurd (false≢true e)
both-more false true true y e = omega arith
both-more false true false y e = absurd (false≢true e)
both-more false false true true e = omega arith
both-more false false true false e = omega arith
both-more false false false true e = omega arith
both-more false false false false e = absurd (false≢true e)

as4-more : (a : Bool) → cond a false true ≡ true → 1 + bit a ≤ 1
as4-more true e = absurd (false≢true e)
as4-more false e = omega arith

goes-more : (seen : Seen) (c : Capability) → goes_on seen c ≡ true → 1 + count seen ≤ count (seen_behind seen c)
goes-more seen (Multi family subsequent) e = omega (arith, both-more seen.ip4 seen.ip6 (is_unicast IPV4 (Multi family subsequent)) (is_unicast IPV6 (Multi family subsequent)) e)
goes-more seen (As4 number) e = omega (arith, as4-more seen.as4 e)
goes-more seen (Other code value) e =
    omega (arith, both-more seen.refresh seen.enhanced (offers_plain ROUTE_REFRESH (Other code value)) (offers_plain ENHANCED_ROUTE_REFRESH (Other code value)) e)

or-more : (a x : Bool) → bit a ≤ bit (a || x)
or-more true x = omega arith
or-more false true = omega arith
or-more false false = omega arith

bit-most : (a : Bool) → bit a ≤ 1
bit-most true = omega arith
bit-most false = omega arith

no-less : (seen : Seen) (c : Capability) → count seen ≤ count (seen_behind seen c)
no-less seen (Multi family subsequent) = omega (arith, or-more seen.ip4 (is_unicast IPV4 (Multi family subsequent)), or-more seen.ip6 (is_unicast IPV6 (Multi family subsequent)))
no-less seen (As4 number) = omega (arith, bit-most seen.as4)
no-less seen (Other code value) =
    omega (arith, or-more seen.refresh (offers_plain ROUTE_REFRESH (Other code value)), or-more seen.enhanced (offers_plain ENHANCED_ROUTE_REFRESH (Other code value)))

few-by : (seen : Seen) (c : Capability) (more : List Capability) (t : Bool) → goes_on seen c ≡ t → length more + count (seen_behind seen c) ≤ 5
    → length (cond t (c ∷ more) more) + count seen ≤ 5
few-by seen c more true e few = omega (arith, few, goes-more seen c e)
few-by seen c more false e few = omega (arith, few, no-less seen c)

pub few_understood : (seen : Seen) (caps : List Capability) → length (understood_behind seen caps) + count seen ≤ 5
few_understood seen [] = omega (arith, bit-most seen.ip4, bit-most seen.ip6, bit-most seen.as4, bit-most seen.refresh, bit-most seen.enhanced)
few_understood seen (c ∷ later) = few-by seen c (understood_behind (seen_behind seen c) later) (goes_on seen c) refl (few_understood (seen_behind seen c) later)
