-- The octets of a note, as reported.
use Rattle.ristulva_c.proofs.Below.{◌≡◌, ℕ, ◌+◌, ◌-◌, ◌<◌, ◌≤◌, ◌||◌, ◌==◌, Bool, true, false, List, length, drop, Option, None, Some, refl, sym, arith, nat_lt, nat_le, if◌then◌else◌, eqb-true, le-ltb, lt-leb, and_right, length-drop, Why, Note, Parts, parts_of, attributes_at, attribute_place, is_attribute, note_place, note_place_in, says_missing}
use Rattle.bgp_attr.specs.declared.why.Why.TheVariants as why
use Rattle.bgp_update.proofs.PartLengths.{parts_within}
use Rattle.ristulva_c.specs.declared.notes.ToldNote.{ToldNote}
use Rattle.ristulva_c.specs.Prelude.{noted_place, note_told, number_of_why}

abbrev note_at : ℕ → ℕ → Why → Note
note_at at kind w = record { at = at; kind = kind; why = w }

-- ---- no octets

-- one that isn't within the attributes has none
outside : (n : Note) (p : Parts) → is_attribute p n.at ≡ false → note_place_in n (Some p) ≡ None
outside n p out = by (says_missing n.why) (is_attribute p n.at) out
  where
    by : (missing there : Bool) → there ≡ false → (if missing then None else (if there then Some (attribute_place p (n.at - attributes_at p)) else None)) ≡ None
    by true there is = refl
    by false true is = absurd cc
    by false false is = refl

before_all : (n : Note) (o : Option Parts) → n.at ≡ 0 → note_place_in n o ≡ None
before_all n None zero_at = refl
before_all n (Some p) zero_at =
    let out : nat_le (attributes_at p) n.at ≡ false = lt-leb (attributes_at p) n.at (omega (arith, zero_at)) in
    outside n p (rw out refl)

far_in : (b : List ℕ) (n : Note) (o : Option Parts) → o ≡ parts_of b → length b ≤ 4077 → 4077 < n.at → note_place_in n o ≡ None
far_in b n None found short far = refl
far_in b n (Some p) found short far =
    let out : nat_lt n.at (attributes_at p + length p.attributes) ≡ false = le-ltb n.at (attributes_at p + length p.attributes) (omega (arith, parts_within b p found short, far)) in
    outside n p (and_right (nat_le (attributes_at p) n.at) (nat_lt n.at (attributes_at p + length p.attributes)) out)

-- nor has one after all octets of a message
far_none : (octets : List ℕ) (n : Note) → length octets ≤ 4096 → 4077 < n.at → note_place (drop 19 octets) n ≡ None
far_none octets n short far = far_in (drop 19 octets) n (parts_of (drop 19 octets)) refl (omega (arith, length-drop 19 octets, short)) far

pub far_noted : (octets : List ℕ) (told : ToldNote) → length octets ≤ 4096 → 4096 < told.at → None ≡ noted_place octets told
far_noted octets told short far = by ((told.why == 14) || nat_lt told.at 19)
  where
    note : Note
    note = note_at (told.at - 19) told.kind why.Flags

    by : (none : Bool) → None ≡ (if none then None else note_place (drop 19 octets) note)
    by true = refl
    by false = sym (far_none octets note short (omega (arith, far)))

-- ---- for each note they are the note's

missing_none : (n : Note) (o : Option Parts) → says_missing n.why ≡ true → note_place_in n o ≡ None
missing_none n None is = refl
missing_none n (Some p) is = rw is refl

same_place : (n m : Note) (o : Option Parts) → n.at ≡ m.at → says_missing n.why ≡ says_missing m.why → note_place_in n o ≡ note_place_in m o
same_place n m None at said = refl
same_place n m (Some p) at said = rw (at, said) refl

is_fourteen : (w : Why) → (number_of_why w == 14) ≡ says_missing w
is_fourteen why.Flags = refl
is_fourteen why.Length = refl
is_fourteen why.Value = refl
is_fourteen why.SegmentType = refl
is_fourteen why.SegmentCount = refl
is_fourteen why.SegmentEnd = refl
is_fourteen why.Repeated = refl
is_fourteen why.External = refl
is_fourteen why.FourOctet = refl
is_fourteen why.Family = refl
is_fourteen why.Unneeded = refl
is_fourteen why.Emptied = refl
is_fourteen why.Cut = refl
is_fourteen why.Missing = refl
is_fourteen why.AsZero = refl

module _ (octets : List ℕ) where
  -- by whether its offset is 0
  behind_by : (at kind : ℕ) (w : Why) (first : Bool) → (at == 0) ≡ first → says_missing w ≡ false
      → (if nat_lt (if first then 0 else 19 + at) 19 then None
      else note_place (drop 19 octets) (note_at ((if first then 0 else 19 + at) - 19) kind why.Flags))
      ≡ note_place (drop 19 octets) (note_at at kind w)
  behind_by at kind w true is said = sym (before_all (note_at at kind w) (parts_of (drop 19 octets)) (eqb-true at 0 is))
  behind_by at kind w false is said =
      let behind : nat_lt (19 + at) 19 ≡ false = le-ltb (19 + at) 19 (omega arith) in
      let back : 19 + at - 19 ≡ at = omega arith in
      rw (behind, back) (same_place (note_at at kind why.Flags) (note_at at kind w) (parts_of (drop 19 octets)) refl (sym said))

  -- and by whether it says that an attribute is missing
  place_by : (at kind : ℕ) (w : Why) (missing : Bool) → says_missing w ≡ missing
      → (if missing || nat_lt (if at == 0 then 0 else 19 + at) 19 then None
      else note_place (drop 19 octets) (note_at ((if at == 0 then 0 else 19 + at) - 19) kind why.Flags))
      ≡ note_place (drop 19 octets) (note_at at kind w)
  place_by at kind w true said = sym (missing_none (note_at at kind w) (parts_of (drop 19 octets)) said)
  place_by at kind w false said = behind_by at kind w (at == 0) refl said

  pub noted_is : (n : Note) → noted_place octets (note_told n) ≡ note_place (drop 19 octets) n
  noted_is n = rw (is_fourteen n.why) (place_by n.at n.kind n.why (says_missing n.why) refl)
