-- What is printed for the attributes of recognised types.
use Rattle.bgp_text.proofs.Prelude.{◌≡◌, ◌++◌, ℕ, List, refl, append_assoc, flat_map, known_of, slot, printed_types, printed_attributes}
use Rattle.std.proofs.lemmas.List.{append-nil}
use Rattle.bgp_numbers.specs.declared.attribute.TheConstants.{ORIGIN, AS_PATH, NEXT_HOP, MULTI_EXIT_DISC, LOCAL_PREF, ATOMIC_AGGREGATE, AGGREGATOR, COMMUNITIES, MP_REACH_NLRI, MP_UNREACH_NLRI, AS4_PATH, AS4_AGGREGATOR, LARGE_COMMUNITY}
use Rattle.bgp_attr.specs.declared.attr.Attr.{Attr}
use Rattle.bgp_update.specs.declared.attrs.Attrs.{Attrs}

-- they don't depend on those of other types
pub known_printed : (attribute : Attr → List ℕ) (a : Attrs) → printed_attributes attribute (known_of a) ≡ printed_attributes attribute a
unfolding printed_attributes slot
known_printed attribute a = refl

-- type by type, the last one still left
pub all_slots : (p : ℕ → List ℕ) (t0 : List ℕ) {t1 t2 t3 t4 t5 t6 t7 t8 t9 t10 t11 t12 : List ℕ}
    → t1 ≡ t0 ++ p MP_REACH_NLRI → t2 ≡ t1 ++ p MP_UNREACH_NLRI → t3 ≡ t2 ++ p ORIGIN → t4 ≡ t3 ++ p AS_PATH → t5 ≡ t4 ++ p NEXT_HOP
    → t6 ≡ t5 ++ p MULTI_EXIT_DISC → t7 ≡ t6 ++ p LOCAL_PREF → t8 ≡ t7 ++ p ATOMIC_AGGREGATE → t9 ≡ t8 ++ p AGGREGATOR
    → t10 ≡ t9 ++ p COMMUNITIES → t11 ≡ t10 ++ p LARGE_COMMUNITY → t12 ≡ t11 ++ p AS4_PATH
    → t12 ++ p AS4_AGGREGATOR ≡ t0 ++ flat_map p printed_types
all_slots p t0 e1 e2 e3 e4 e5 e6 e7 e8 e9 e10 e11 e12 =
    rw (e12, e11, e10, e9, e8, e7, e6, e5, e4, e3, e2, e1) (simp (append_assoc, append-nil))
