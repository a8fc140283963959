-- Each number of an UPDATE that is sent to a speaker with 2-octet AS numbers is within its field.
use Rattle.bgp_session.proofs.Prelude.{Bool, true, false, cond, List, [], ◌∷◌, map, arith, AllByRecursion, Update, narrow_number, narrow_segment}
use Rattle.bgp_session.proofs.Prelude.{narrowed_update, HasUpdateRanges}
use Rattle.bgp_numbers.specs.declared.TheConstants.{AS_TRANS}
use Rattle.bgp_prefix.specs.declared.as_number.AsNumber.{AsNumber}
use Rattle.bgp_attr.specs.declared.path.Segment.{Segment}
use Rattle.bgp_attr.specs.Prelude.{as_number, is_above_two_octets, IsFourOctets, HasRanges}
use Rattle.bgp_update.proofs.Widths.{Carries, told-all}

-- ---- numbers and segments

number_fits : (n : AsNumber) → IsFourOctets n.0 → IsFourOctets (narrow_number n).0
number_fits n small = by (is_above_two_octets n.0)
  where
    by : (t : Bool) → IsFourOctets (cond t (as_number AS_TRANS) n).0
    by true = omega arith
    by false = small

numbers_fit : (ns : List AsNumber) → AllByRecursion (λ n. IsFourOctets n.0) ns → AllByRecursion (λ n. IsFourOctets n.0) (map narrow_number ns)
numbers_fit [] all = tt
numbers_fit (n ∷ ns) all = (number_fits n all.0, numbers_fit ns all.1)

segments_fit : (ss : List Segment) → AllByRecursion (λ s. AllByRecursion (λ n. IsFourOctets n.0) s.numbers) ss
    → AllByRecursion (λ s. AllByRecursion (λ n. IsFourOctets n.0) s.numbers) (map narrow_segment ss)
segments_fit [] all = tt
segments_fit (s ∷ ss) all = (numbers_fit s.numbers all.0, segments_fit ss all.1)

-- ---- attributes

ranges_told : Carries HasRanges HasRanges
ranges_told = record {
  as_path = λ p h. segments_fit p.segments h;
  as4_path = λ p e h. h;
  aggregator = λ g h. (number_fits g.asn h.0, h.1);
  as4_aggregator = λ g h. h;
  same = λ x e h. h;
}

pub narrowed_ranges : (u : Update) → HasUpdateRanges u → HasUpdateRanges (narrowed_update u)
narrowed_ranges u r = record { withdrawn = r.withdrawn; attributes = told-all HasRanges HasRanges ranges_told u.attrs r.attributes; others = r.others; nlri = r.nlri }
