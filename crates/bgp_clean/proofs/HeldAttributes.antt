-- The attributes that are kept of a message, whatever its verdict: each is within its ranges and belongs there, and they are no longer than the
-- field.
use Rattle.bgp_clean.proofs.Prelude.{◌≡◌, ℕ, ◌+◌, ◌≤◌, Bool, List, ◌∷◌, ◌++◌, length, refl, ap, ◌∙◌, arith, flat_map, filter, AllByRecursion, flat_map-append}
use Rattle.bgp_clean.proofs.Prelude.{not, length-append, MP_REACH_NLRI, MP_UNREACH_NLRI, AreOctets, Context, Attr, MpReach, MpUnreach, Belongs, HasRanges}
use Rattle.bgp_clean.proofs.Prelude.{Attrs, carries_routes, marks_of, Parts, present, types_from, slot, canonical_order, attr_list, kept_of, attrs_of}
use Rattle.bgp_clean.proofs.Prelude.{attributes_octets, has_nlri, slot-at, field-all}
use Rattle.bgp_update.proofs.TakenSlots.{each-slot, attributes-shorter}

-- attributes of n octets at most, each within its ranges, and where it belongs
pub record AreHeld (ctx : Context) (nlri : Bool) (a : Attrs) (n : ℕ) : Type 0 where
  pub ranges : AllByRecursion HasRanges (attr_list a)
  pub in_place : AllByRecursion (Belongs ctx nlri) (attr_list a)
  pub shorter : length (attributes_octets ctx a) ≤ n

module _ (ctx : Context) (p : Parts) (octets : AreOctets p.attributes) where
  pub are-held : AreHeld ctx (has_nlri p) (attrs_of (kept_of (marks_of ctx p))) (length p.attributes)
  are-held = record {
    ranges = each-slot ctx p octets HasRanges (λ x r. r.ranges);
    in_place = each-slot ctx p octets (Belongs ctx (has_nlri p)) (λ x r. r.in_place);
    shorter = attributes-shorter ctx p octets;
  }

-- ---- the two that carry routes

module _ (a : Attrs) where
  abbrev pub reach_attr : List Attr
  reach_attr = present (λ (r : MpReach). Attr.MpReach r) a.mp_reach

  abbrev pub unreach_attr : List Attr
  unreach_attr = present (λ (r : MpUnreach). Attr.MpUnreach r) a.mp_unreach

  pub reach-all : (P : Attr → Type 0) → AllByRecursion P (attr_list a) → AllByRecursion P reach_attr
  reach-all P all = field-all P a MP_REACH_NLRI refl all

  pub unreach-all : (P : Attr → Type 0) → AllByRecursion P (attr_list a) → AllByRecursion P unreach_attr
  unreach-all P all = field-all P a MP_UNREACH_NLRI refl all

  module _ (f : Attr → List ℕ) where
    length-both : (xs ys : List Attr) → length (flat_map f (xs ++ ys)) ≡ length (flat_map f xs) + length (flat_map f ys)
    length-both xs ys = ap length (flat_map-append f xs ys) ∙ length-append (flat_map f xs) (flat_map f ys)

    first-two : (k j : ℕ) (ks : List ℕ) → length (flat_map f (slot a k)) + length (flat_map f (slot a j)) ≤ length (flat_map f (flat_map (slot a) (k ∷ j ∷ ks)))
    first-two k j ks = omega (arith, length-both (slot a k) (slot a j ++ flat_map (slot a) ks), length-both (slot a j) (flat_map (slot a) ks))

    first-routes : length (flat_map f (slot a MP_REACH_NLRI)) + length (flat_map f (slot a MP_UNREACH_NLRI)) ≤ length (flat_map f (attr_list a))
    unfolding canonical_order
    first-routes = first-two MP_REACH_NLRI MP_UNREACH_NLRI (filter (λ kind. not (carries_routes kind)) (types_from 0 256))

    -- they are among the others
    pub both-within : length (flat_map f reach_attr) + length (flat_map f unreach_attr) ≤ length (flat_map f (attr_list a))
    both-within =
        let reach : length (flat_map f (slot a MP_REACH_NLRI)) ≡ length (flat_map f reach_attr) = ap (λ (xs : List Attr). length (flat_map f xs)) (slot-at a MP_REACH_NLRI) in
        let unreach : length (flat_map f (slot a MP_UNREACH_NLRI)) ≡ length (flat_map f unreach_attr) =
        ap (λ (xs : List Attr). length (flat_map f xs)) (slot-at a MP_UNREACH_NLRI) in
        omega (arith, first-routes)
