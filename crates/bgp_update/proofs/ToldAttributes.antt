-- Each attribute of an UPDATE sent to a 2-octet-AS peer can be written.
use Rattle.bgp_wire.proofs.Std.{◌≡◌, ℕ, ◌≤◌, Bool, true, false, ltb, List, [], ◌∷◌, length, map, subst, arith, flat_map, AllByRecursion, ltb-false, le-ltb, length-map}
use Rattle.std.proofs.lemmas.Bool.{true≢false}
use Rattle.std.proofs.lemmas.List.{length-append}
use Rattle.bgp_open.specs.declared.context.Context.{Context}
use Rattle.bgp_attr.specs.declared.aggregator.Aggregator.{Aggregator}
use Rattle.bgp_attr.specs.declared.attr.Attr.{Attr}
use Rattle.bgp_attr.specs.declared.path.Segment.{Segment}
use Rattle.bgp_attr.specs.Prelude.{segment_octets, aggregator_octets, type_of, is_too_long, is_writable}
use Rattle.bgp_attr.specs.declared.attr.Attr.TheVariants as attr
use Rattle.bgp_attr.proofs.SegmentRows.{length-segment}
use Rattle.bgp_update.specs.declared.update.Update.{Update}
use Rattle.bgp_update.specs.Prelude.{narrow_number, narrow_segment, narrow_aggregator, narrowed, narrowed_update, attr_list, CanBeTold, with_as4, written_body}
use Rattle.bgp_update.proofs.ReadBack.{none-long, short-writable}
use Rattle.bgp_update.proofs.Widths.{is_narrowed, Carries, told-all, narrowed_update_is_valid}

-- a value of no more octets isn't too long either
no-longer : (m n : ℕ) → m ≤ n → ltb 65535 n ≡ false → ltb 65535 m ≡ false
no-longer m n le e = le-ltb 65535 m (omega (arith, ltb-false 65535 n e, le))

path-shorter : (ss : List Segment) → length (flat_map (segment_octets false) (map narrow_segment ss)) ≤ length (flat_map (segment_octets true) ss)
path-shorter [] = omega arith
path-shorter (s ∷ ss) =
    omega (
      arith,
      path-shorter ss,
      length-append (segment_octets false (narrow_segment s)) (flat_map (segment_octets false) (map narrow_segment ss)),
      length-append (segment_octets true s) (flat_map (segment_octets true) ss),
      length-segment false (narrow_segment s),
      length-segment true s,
      length-map s.numbers narrow_number,
    )

aggregator-shorter : (g : Aggregator) → length (aggregator_octets false (narrow_aggregator g)) ≤ length (aggregator_octets true g)
aggregator-shorter g = omega arith

module _ (ctx : Context) (wide : ctx.as4 ≡ true) where
  short-told : Carries (λ x. is_too_long ctx x ≡ false) (λ x. is_too_long (with_as4 false ctx) x ≡ false)
  short-told = record {
    as_path = λ p h. no-longer _ _ (path-shorter p.segments) (rw (← wide) h);
    as4_path = λ p e h. rw (← wide) h;
    aggregator = λ g h. no-longer _ _ (aggregator-shorter g) (in_four g h);
    as4_aggregator = in_four;
    same = same;
  }
    where
      in_four : (g : Aggregator) → ltb 65535 (length (aggregator_octets ctx.as4 g)) ≡ false → ltb 65535 (length (aggregator_octets true g)) ≡ false
      in_four g h = subst (λ (t : Bool). ltb 65535 (length (aggregator_octets t g)) ≡ false) wide h

      same : (x : Attr) → is_narrowed (type_of x) ≡ false → is_too_long ctx x ≡ false → is_too_long (with_as4 false ctx) x ≡ false
      same (attr.AsPath p) e h = absurd (true≢false e)
      same (attr.Aggregator g) e h = absurd (true≢false e)
      same _ e h = h

pub told_writable : (ctx : Context) (u : Update) → CanBeTold ctx u → AllByRecursion (λ x. is_writable (with_as4 false ctx) x ≡ true) (attr_list (narrowed u.attrs))
told_writable ctx u can =
    short-writable (with_as4 false ctx) (narrowed_update u) (narrowed_update_is_valid ctx u can.wide can.valid)
    (told-all (λ x. is_too_long ctx x ≡ false) (λ x. is_too_long (with_as4 false ctx) x ≡ false) (short-told ctx can.wide) u.attrs
    (none-long ctx u (ltb-false 4077 (length (written_body ctx u)) can.short)))
