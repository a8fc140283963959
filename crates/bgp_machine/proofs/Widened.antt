-- Each number of an UPDATE is within its field where each number of its form for a speaker with 2-octet AS numbers is.
use Rattle.bgp_machine.proofs.Prelude.{◌≡◌, ℕ, Bool, true, false, cond, List, [], ◌∷◌, Option, Some, None, subst, refl, sym, arith, list_any, AllByRecursion}
use Rattle.bgp_machine.proofs.Prelude.{ltb-false, or_parts, option_map, Update, narrow_aggregator, wide_path, wide_aggregator, narrowed, narrowed_update}
use Rattle.bgp_machine.proofs.Prelude.{HasNoAs4, present, slot, canonical_order, attr_list, HasUpdateRanges, by_narrowed, same-slot}
use Rattle.bgp_numbers.specs.declared.attribute.TheConstants.{AS4_PATH, AS4_AGGREGATOR}
use Rattle.bgp_prefix.specs.declared.as_number.AsNumber.{AsNumber}
use Rattle.bgp_attr.specs.declared.aggregator.Aggregator.{Aggregator}
use Rattle.bgp_attr.specs.declared.attr.Attr.{Attr}
use Rattle.bgp_attr.specs.declared.path.Segment.{Segment}
use Rattle.bgp_attr.specs.declared.path.AsPath.{AsPath}
use Rattle.bgp_attr.specs.declared.path.As4Path.{As4Path}
use Rattle.bgp_attr.specs.Prelude.{any_number, is_above_two_octets, IsFourOctets, HasPathRanges, HasRanges}
use Rattle.bgp_update.specs.declared.attrs.Attrs.{Attrs}
use Rattle.bgp_update.proofs.Lists.{all-carried}
use Rattle.bgp_update.proofs.SlotLemmas.{slot-all}

-- ---- numbers that need no four octets

numbers_small : (ns : List AsNumber) → list_any (λ n. is_above_two_octets n.0) ns ≡ false → AllByRecursion (λ n. IsFourOctets n.0) ns
numbers_small [] none = tt
numbers_small (n ∷ ns) none =
    let parts = or_parts (is_above_two_octets n.0) (list_any (λ m. is_above_two_octets m.0) ns) none in
    let small = ltb-false 65535 n.0 parts.0 in
    (omega arith, numbers_small ns parts.1)

segments_small : (ss : List Segment) → list_any (λ s. list_any (λ n. is_above_two_octets n.0) s.numbers) ss ≡ false
    → AllByRecursion (λ s. AllByRecursion (λ n. IsFourOctets n.0) s.numbers) ss
segments_small [] none = tt
segments_small (s ∷ ss) none =
    let parts = or_parts (list_any (λ n. is_above_two_octets n.0) s.numbers) (list_any (λ t. list_any (λ n. is_above_two_octets n.0) t.numbers) ss) none in
    (numbers_small s.numbers parts.0, segments_small ss parts.1)

-- ---- attributes

abbrev pub AllFit : List Attr → Type 0
AllFit xs = AllByRecursion HasRanges xs

-- a path that needs four octets is sent unchanged
path_by : (p : AsPath) (t : Bool) → any_number is_above_two_octets p ≡ t → AllFit (present (λ (w : As4Path). Attr.As4Path w) (cond t (Some (record { partial = false; path = p })) None)) → HasPathRanges p
path_by p true is all = all.0
path_by p false is all = segments_small p.segments is

path_back : (o : Option AsPath) → AllFit (present (λ (w : As4Path). Attr.As4Path w) (wide_path o)) → AllFit (present (λ (p : AsPath). Attr.AsPath p) o)
path_back None all = tt
path_back (Some p) all = (path_by p (any_number is_above_two_octets p) refl all, tt)

number_by : (g : Aggregator) (t : Bool) → is_above_two_octets (g.asn).0 ≡ t → AllFit (present (λ (w : Aggregator). Attr.As4Aggregator w) (cond t (Some g) None)) → IsFourOctets (g.asn).0
number_by g true is all = all.0.0
number_by g false is all = let small = ltb-false 65535 (g.asn).0 is in omega arith

aggregator_back : (o : Option Aggregator) → AllFit (present (λ (g : Aggregator). Attr.Aggregator g) (option_map narrow_aggregator o))
    → AllFit (present (λ (w : Aggregator). Attr.As4Aggregator w) (wide_aggregator o)) → AllFit (present (λ (g : Aggregator). Attr.Aggregator g) o)
aggregator_back None told wide = tt
aggregator_back (Some g) told wide = ((number_by g (is_above_two_octets (g.asn).0) refl wide, told.0.1), tt)

-- ---- all of them

module _ (a : Attrs) (none : HasNoAs4 a) where
  no_path : AllFit (present (λ (w : As4Path). Attr.As4Path w) a.as4_path)
  no_path = subst (λ (o : Option As4Path). AllFit (present (λ (w : As4Path). Attr.As4Path w) o)) (sym none.path) tt

  no_aggregator : AllFit (present (λ (g : Aggregator). Attr.As4Aggregator g) a.as4_aggregator)
  no_aggregator = subst (λ (o : Option Aggregator). AllFit (present (λ (g : Aggregator). Attr.As4Aggregator g) o)) (sym none.aggregator) tt

  slot_back : AllFit (slot (narrowed a) AS4_PATH) → AllFit (slot (narrowed a) AS4_AGGREGATOR) → (k : ℕ) → AllFit (slot (narrowed a) k) → AllFit (slot a k)
  unfolding slot
  slot_back paths aggregators =
      by_narrowed (λ k. AllFit (slot (narrowed a) k) → AllFit (slot a k))
      (λ all. path_back a.as_path paths) (λ all. aggregator_back a.aggregator all aggregators) (λ all. no_path) (λ all. no_aggregator)
      (λ k kept all. subst AllFit (same-slot a k kept) all)

  attrs_back : AllFit (attr_list (narrowed a)) → AllFit (attr_list a)
  attrs_back all =
      all-carried HasRanges HasRanges (slot (narrowed a)) (slot a) canonical_order
      (slot_back (slot-all HasRanges (narrowed a) AS4_PATH refl all) (slot-all HasRanges (narrowed a) AS4_AGGREGATOR refl all)) all

pub widened_ranges : (u : Update) → HasNoAs4 u.attrs → HasUpdateRanges (narrowed_update u) → HasUpdateRanges u
widened_ranges u none r = record { withdrawn = r.withdrawn; attributes = attrs_back u.attrs none r.attributes; others = r.others; nlri = r.nlri }
