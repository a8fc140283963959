-- The attributes of the messages that replace an UPDATE, by type.
use Rattle.bgp_clean.proofs.Prelude.{◌≡◌, ℕ, Bool, true, false, cond, eqb, List, [], ◌∷◌, refl, sym, ◌∙◌, AllByRecursion, both_ways, false≢true, flat_map, append-nil}
use Rattle.bgp_clean.proofs.Prelude.{MP_REACH_NLRI, MP_UNREACH_NLRI, Attr, MpReach, MpUnreach, Attrs, attr_list, attrs_from, entry_of, other_slot, present, slot, slots, slot-at, Update, Option, None, gone_routes, hop_part, nlri_routes, reach_left, reached_routes, unreach_of}
use Rattle.bgp_numbers.specs.declared.attribute.TheConstants.{NEXT_HOP}
use Rattle.bgp_clean.specs.declared.part.Part.{Part}
use Rattle.bgp_clean.specs.steps.Parts.{is_announcing, part_update}
use Rattle.bgp_clean.proofs.Ends.{with_unreach, unreach-list}

module _ (a : Attrs) (hop : Option (List ℕ)) (r : Option MpReach) (u : Option MpUnreach) where
  abbrev pub changed : Attrs
  changed = record a { next_hop = hop; mp_reach = r; mp_unreach = u }

  -- each other attribute is unchanged
  pub slot-apart : (k : ℕ) → eqb k NEXT_HOP ≡ false → eqb k MP_REACH_NLRI ≡ false → eqb k MP_UNREACH_NLRI ≡ false → slot changed k ≡ slot a k
  unfolding slot
  slot-apart k no_hop no_reach no_unreach = rw (no_hop, no_reach, no_unreach) refl

module _ (a : Attrs) where
  pub slot-hop : slot a NEXT_HOP ≡ present (λ (h : List ℕ). Attr.NextHop h) a.next_hop
  unfolding slot
  slot-hop = refl

  pub slot-reach : slot a MP_REACH_NLRI ≡ present (λ (r : MpReach). Attr.MpReach r) a.mp_reach
  unfolding slot
  slot-reach = refl

  pub slot-unreach : slot a MP_UNREACH_NLRI ≡ present (λ (r : MpUnreach). Attr.MpUnreach r) a.mp_unreach
  unfolding slot
  slot-unreach = refl

-- ---- a withdrawal has no attribute but MP_UNREACH_NLRI

entry-empty : (kind : ℕ) (rows : List (ℕ × List Attr)) (d : List Attr) → d ≡ [] → AllByRecursion (λ row. eqb kind row.0 ≡ true → row.1 ≡ []) rows → entry_of kind rows d ≡ []
entry-empty kind [] d none all = none
entry-empty kind (row ∷ rows) d none all = by (eqb kind row.0) refl (entry-empty kind rows d none all.1)
  where
    by : (t : Bool) → eqb kind row.0 ≡ t → entry_of kind rows d ≡ [] → cond t row.1 (entry_of kind rows d) ≡ []
    by true e later = all.0 e
    by false e later = later

module _ (o : Option MpUnreach) (k : ℕ) (other : eqb k MP_UNREACH_NLRI ≡ false) where
  abbrev IsEmptyAt : ℕ × List Attr → Type 0
  IsEmptyAt row = eqb k row.0 ≡ true → row.1 ≡ []

  rows-empty : AllByRecursion IsEmptyAt (slots (with_unreach o))
  unfolding attrs_from
  rows-empty =
      ((λ e. refl), ((λ e. refl), ((λ e. refl), ((λ e. refl), ((λ e. refl), ((λ e. refl), ((λ e. refl), ((λ e. refl), ((λ e. refl), ((λ e. absurd (both_ways (eqb k MP_UNREACH_NLRI) other e)), ((λ e. refl), ((λ e. refl), ((λ e. refl), tt)))))))))))))

  pub withdrawal-slot : slot (with_unreach o) k ≡ []
  unfolding attrs_from
  withdrawal-slot = slot-at (with_unreach o) k ∙ entry-empty k (slots (with_unreach o)) (other_slot (with_unreach o) k) refl rows-empty

pub withdrawal-types : (o : Option MpUnreach) → flat_map (slot (with_unreach o)) (MP_UNREACH_NLRI ∷ []) ≡ attr_list (with_unreach o)
unfolding attrs_from
withdrawal-types o = append-nil (slot (with_unreach o) MP_UNREACH_NLRI) ∙ slot-unreach (with_unreach o) ∙ sym (unreach-list o)

-- ---- of a part

module _ (u : Update) (k : ℕ) (no_hop : eqb k NEXT_HOP ≡ false) (no_reach : eqb k MP_REACH_NLRI ≡ false) (no_unreach : eqb k MP_UNREACH_NLRI ≡ false) where
  pub announcing-slot : (p : Part) → is_announcing p ≡ true → slot (part_update p u).attrs k ≡ slot u.attrs k
  announcing-slot Part.Nlri e = slot-apart u.attrs u.attrs.next_hop None None k no_hop no_reach no_unreach
  announcing-slot Part.Reached e = slot-apart u.attrs (hop_part u.attrs.mp_reach) (reach_left u.attrs.mp_reach) None k no_hop no_reach no_unreach
  announcing-slot Part.Gone e = absurd (false≢true e)
  announcing-slot Part.NlriGone e = absurd (false≢true e)
  announcing-slot Part.ReachedGone e = absurd (false≢true e)

  pub withdrawing-slot : (p : Part) → is_announcing p ≡ false → slot (part_update p u).attrs k ≡ []
  withdrawing-slot Part.Gone e = withdrawal-slot (unreach_of (gone_routes u).ip6) k no_unreach
  withdrawing-slot Part.NlriGone e = withdrawal-slot (unreach_of (nlri_routes u).ip6) k no_unreach
  withdrawing-slot Part.ReachedGone e = withdrawal-slot (unreach_of (reached_routes u).ip6) k no_unreach
  withdrawing-slot Part.Nlri e = absurd (false≢true (sym e))
  withdrawing-slot Part.Reached e = absurd (false≢true (sym e))

pub withdrawing-types : (u : Update) (p : Part) → is_announcing p ≡ false → flat_map (slot (part_update p u).attrs) (MP_UNREACH_NLRI ∷ []) ≡ attr_list (part_update p u).attrs
withdrawing-types u Part.Gone e = withdrawal-types (unreach_of (gone_routes u).ip6)
withdrawing-types u Part.NlriGone e = withdrawal-types (unreach_of (nlri_routes u).ip6)
withdrawing-types u Part.ReachedGone e = withdrawal-types (unreach_of (reached_routes u).ip6)
withdrawing-types u Part.Nlri e = absurd (false≢true (sym e))
withdrawing-types u Part.Reached e = absurd (false≢true (sym e))
