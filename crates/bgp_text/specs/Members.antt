-- The members of an UPDATE, in the order in which text and JSON have them.
use Rattle.std.specs.Prelude.{ℕ, List, [], ◌∷◌, ◌++◌}
use Rattle.bgp_text.specs.Below.{flat_map, PrefixValue, Attr, Opaque, slot, Update}
use Rattle.bgp_numbers.specs.declared.attribute.TheConstants.{ORIGIN, AS_PATH, NEXT_HOP, MULTI_EXIT_DISC, LOCAL_PREF, ATOMIC_AGGREGATE, AGGREGATOR, COMMUNITIES, MP_REACH_NLRI, MP_UNREACH_NLRI, AS4_PATH, AS4_AGGREGATOR, LARGE_COMMUNITY}
use Rattle.bgp_update.specs.declared.attrs.Attrs.{Attrs}

-- how each member is printed: Withdrawn Routes, an attribute of a recognised type, all those of other types, and the NLRI field
pub record Shown : Type 0 where
  pub withdrawn : List PrefixValue → List ℕ
  pub attribute : Attr → List ℕ
  pub others : List Opaque → List ℕ
  pub nlri : List PrefixValue → List ℕ

-- the recognised types in the order in which they are printed: those that carry routes first
abbrev pub printed_types : List ℕ
printed_types =
    MP_REACH_NLRI ∷ MP_UNREACH_NLRI ∷ ORIGIN ∷ AS_PATH ∷ NEXT_HOP ∷ MULTI_EXIT_DISC ∷ LOCAL_PREF ∷ ATOMIC_AGGREGATE ∷ AGGREGATOR ∷
    COMMUNITIES ∷ LARGE_COMMUNITY ∷ AS4_PATH ∷ AS4_AGGREGATOR ∷ []

-- the attributes of these types, if present
unfoldable pub printed_attributes : (Attr → List ℕ) → Attrs → List ℕ
printed_attributes attribute a = flat_map (λ kind. flat_map attribute (slot a kind)) printed_types

-- an UPDATE
abbrev pub printed : Shown → Update → List ℕ
printed s u = s.withdrawn u.withdrawn ++ (printed_attributes s.attribute u.attrs ++ (s.others u.attrs.others ++ s.nlri u.nlri))
