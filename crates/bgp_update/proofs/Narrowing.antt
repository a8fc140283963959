-- What is sent to a 2-octet-AS peer gives back the path and the aggregator.
use Rattle.bgp_wire.proofs.Std.{◌≡◌, ℕ, ◌+◌, ◌-◌, Bool, true, false, cond, ltb, List, [], ◌∷◌, ◌++◌, map, Option, Some, None, refl, ap, ap₂, sym, ◌∙◌, arith, list_any, le-ltb, cond-false, or_parts, length-map}
use Rattle.std.specs.Prelude.{option_map}
use Rattle.std.proofs.lemmas.List.Sums.{sum_by-cons}
use Rattle.bgp_numbers.specs.declared.TheConstants.{AS_TRANS}
use Rattle.bgp_prefix.specs.declared.as_number.AsNumber.{AsNumber}
use Rattle.bgp_attr.specs.declared.aggregator.Aggregator.{Aggregator}
use Rattle.bgp_attr.specs.declared.path.Segment.{Segment}
use Rattle.bgp_attr.specs.declared.path.AsPath.{AsPath}
use Rattle.bgp_attr.specs.declared.path.As4Path.{As4Path}
use Rattle.bgp_attr.specs.Prelude.{as_number, any_number, is_above_two_octets}
use Rattle.bgp_prefix.specs.declared.prefix.Prefix.{Prefix}
use Rattle.bgp_update.specs.declared.attrs.Attrs.{Attrs}
use Rattle.bgp_update.specs.declared.update.Update.{Update}
use Rattle.bgp_update.specs.Prelude.{items_by, items_in, items_of, lead, joined, rebuilt_path, rebuilt_by, rebuilt, narrow_number, narrow_segment, narrow_path, wide_path, narrow_aggregator, wide_aggregator, narrowed, narrowed_update, HasNoAs4}

-- ---- where no number is wide, nothing changes

number-same : (n : AsNumber) → is_above_two_octets n.0 ≡ false → narrow_number n ≡ n
number-same n e = cond-false (is_above_two_octets n.0) (as_number AS_TRANS) n e

numbers-same : (ns : List AsNumber) → list_any (λ n. is_above_two_octets n.0) ns ≡ false → map narrow_number ns ≡ ns
numbers-same [] e = refl
numbers-same (n ∷ ns) e =
    let p = or_parts (is_above_two_octets n.0) (list_any (λ n. is_above_two_octets n.0) ns) e in
    ap₂ (λ (x : AsNumber) (xs : List AsNumber). x ∷ xs) (number-same n p.0) (numbers-same ns p.1)

segment-same : (s : Segment) → list_any (λ n. is_above_two_octets n.0) s.numbers ≡ false → narrow_segment s ≡ s
segment-same s e = ap (λ (ns : List AsNumber). record { kind = s.kind; numbers = ns }) (numbers-same s.numbers e)

segments-same : (ss : List Segment) → list_any (λ s. list_any (λ n. is_above_two_octets n.0) s.numbers) ss ≡ false → map narrow_segment ss ≡ ss
segments-same [] e = refl
segments-same (s ∷ ss) e =
    let p = or_parts (list_any (λ n. is_above_two_octets n.0) s.numbers) (list_any (λ s. list_any (λ n. is_above_two_octets n.0) s.numbers) ss) e in
    ap₂ (λ (x : Segment) (xs : List Segment). x ∷ xs) (segment-same s p.0) (segments-same ss p.1)

pub path_same : (p : AsPath) → any_number is_above_two_octets p ≡ false → narrow_path p ≡ p
path_same p e = ap (λ (ss : List Segment). record { segments = ss }) (segments-same p.segments e)

-- ---- the number of items doesn't change

item-same : (s : Segment) → items_in (narrow_segment s) ≡ items_in s
item-same s = ap (items_by s.kind) (length-map s.numbers narrow_number)

pub items-same : (ss : List Segment) → items_of (map narrow_segment ss) ≡ items_of ss
items-same [] = refl
items-same (s ∷ ss) =
    sum_by-cons items_in (narrow_segment s) (map narrow_segment ss) ∙ ap₂ ◌+◌ (item-same s) (items-same ss) ∙ sym (sum_by-cons items_in s ss)

pub lead-zero : (ss : List Segment) → lead 0 ss ≡ []
lead-zero [] = refl
lead-zero (s ∷ ss) = refl

-- a path of no more items than the wide one, joined with it
pub joined-even : (path wide : AsPath) → items_of path.segments ≡ items_of wide.segments → joined path wide ≡ wide
joined-even path wide e =
    let none : items_of path.segments - items_of wide.segments ≡ 0 = omega arith in
    let whole : AsPath = record { segments = lead (items_of path.segments - items_of wide.segments) path.segments ++ wide.segments } in
    let front : lead (items_of path.segments - items_of wide.segments) path.segments ≡ [] = ap (λ (k : ℕ). lead k path.segments) none ∙ lead-zero path.segments in
    cond-false (ltb (items_of path.segments) (items_of wide.segments)) path whole (le-ltb _ _ (omega arith))
    ∙ ap (λ (ss : List Segment). record { segments = ss ++ wide.segments }) front

-- ---- the path and the aggregator

path-by : (p : AsPath) (t : Bool) → any_number is_above_two_octets p ≡ t → rebuilt_path (Some (narrow_path p)) (cond t (Some (record { partial = false; path = p })) None) ≡ Some p
path-by p true e = ap (λ (q : AsPath). Some q) (joined-even (narrow_path p) p (items-same p.segments))
path-by p false e = ap (λ (q : AsPath). Some q) (path_same p e)

path-back : (o : Option AsPath) → rebuilt_path (option_map narrow_path o) (wide_path o) ≡ o
path-back None = refl
path-back (Some p) = path-by p (any_number is_above_two_octets p) refl

aggregator-by : (g : Aggregator) (path : Option AsPath) (as4_path : Option As4Path) (t : Bool)
    → rebuilt_by (Some (record { asn = cond t (as_number AS_TRANS) g.asn; addr = g.addr; partial = g.partial })) (cond t (Some g) None) path as4_path
    ≡ record { path = rebuilt_path path as4_path; aggregator = Some g }
aggregator-by g path as4_path true = refl
aggregator-by g path as4_path false = refl

aggregator-back : (g : Option Aggregator) (path : Option AsPath) (as4_path : Option As4Path)
    → rebuilt_by (option_map narrow_aggregator g) (wide_aggregator g) path as4_path ≡ record { path = rebuilt_path path as4_path; aggregator = g }
aggregator-back None path as4_path = refl
aggregator-back (Some g) path as4_path = aggregator-by g path as4_path (is_above_two_octets (g.asn).0)

pub narrowed-rebuilt : (a : Attrs) → HasNoAs4 a → rebuilt (narrowed a) ≡ record { path = a.as_path; aggregator = a.aggregator }
narrowed-rebuilt a none =
    aggregator-back a.aggregator (option_map narrow_path a.as_path) (wide_path a.as_path)
    ∙ ap (λ (p : Option AsPath). record { path = p; aggregator = a.aggregator }) (path-back a.as_path)

-- the parts of the UPDATE that is sent
pub update_of : (u : Update) (withdrawn nlri : List (Prefix 4)) (attrs : Attrs) → withdrawn ≡ u.withdrawn → nlri ≡ u.nlri → attrs ≡ narrowed u.attrs
    → record { withdrawn = withdrawn; attrs = attrs; nlri = nlri } ≡ narrowed_update u
update_of u withdrawn nlri attrs e f g =
    ap (λ (w : List (Prefix 4)). record { withdrawn = w; attrs = attrs; nlri = nlri }) e
    ∙ ap₂ (λ (a : Attrs) (n : List (Prefix 4)). record { withdrawn = u.withdrawn; attrs = a; nlri = n }) g f
