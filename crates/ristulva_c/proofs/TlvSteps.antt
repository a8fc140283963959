-- From an attribute to those after it.
use Rattle.ristulva_c.proofs.Below.{◌≡◌, ℕ, ◌+◌, ◌-◌, ◌≤◌, List, [], ◌∷◌, ◌++◌, length, take, drop, Option, Some, None, option_map, refl, sym, ap, ap₂, ◌∙◌, arith, length-append, TlvValue, IsTlv, one_tlv, placed_from, tlv_at, no_more, IsTlv-reads}
use Rattle.ristulva_c.specs.declared.attributes.Attributes.{Attributes}
use Rattle.ristulva_c.specs.declared.attributes.Attribute.{Attribute}
use Rattle.ristulva_c.specs.Prelude.{between, IsAttributes, attributes_left, attribute_told}
use Rattle.ristulva_c.proofs.Between.{fits, front_at, value_at, pieces_behind}

-- what is found, with what follows it
front_of : (o : Option (TlvValue × List ℕ)) (t : TlvValue) → Some t ≡ option_map (λ x. x.0) o → (rest : List ℕ) × (Some (t, rest) ≡ o)
front_of None t e = absurd cc
front_of (Some (u, rest)) t e =
    let same : t ≡ u = cc in
    (rest, ap (λ (x : TlvValue). Some (x, rest)) same)

none_of : (o : Option (TlvValue × List ℕ)) → None ≡ option_map (λ x. x.0) o → None ≡ o
none_of None e = refl
none_of (Some found) e = absurd cc

pub no_attributes : (b field : List ℕ) (old : Attributes) → field ≡ between b old.at old.end → None ≡ tlv_at field 0 → attributes_left b old ≡ []
no_attributes b field old is e =
    ap (placed_from old.at) (no_more TlvValue IsTlv one_tlv IsTlv-reads (between b old.at old.end) (none_of (one_tlv field) e ∙ ap one_tlv is))

module _ (b field : List ℕ) (old : Attributes) (flags kind : ℕ) (whole value : List ℕ) (lies : IsAttributes b old) (is : field ≡ between b old.at old.end)
    (e : Some (record { flags = flags; kind = kind; whole = whole; value = value }) ≡ tlv_at field 0) where
  abbrev tlv : TlvValue
  tlv = record { flags = flags; kind = kind; whole = whole; value = value }

  abbrev rest : List ℕ
  rest = (front_of (one_tlv field) tlv e).0

  first : Some (tlv, rest) ≡ one_tlv (between b old.at old.end)
  first = (front_of (one_tlv field) tlv e).1 ∙ ap one_tlv is

  abbrev found : (front : List ℕ) × (between b old.at old.end ≡ front ++ rest) × IsTlv tlv front
  found = IsTlv-reads.gives (between b old.at old.end) tlv rest (sym first)

  abbrev head : List ℕ
  head = flags ∷ kind ∷ found.2.size

  octets : whole ≡ head ++ value
  octets = found.2.whole ∙ found.2.octets

  parts : length whole ≡ length head + length value
  parts = ap length octets ∙ length-append head value

  begins : between b old.at old.end ≡ whole ++ rest
  begins = found.1 ∙ ap (λ (x : List ℕ). x ++ rest) (sym found.2.whole)

  long : old.at + length whole + length rest ≡ old.end
  long = fits b old.at old.end (length whole) whole rest lies.in_order lies.within refl begins

  pub tlv_fits : old.at + length whole ≤ old.end
  tlv_fits = omega (arith, long)

  pub value_fits : length value ≤ length whole
  value_fits = omega (arith, parts)

  abbrev told : Attribute
  told = record { at = old.at; flags = flags; kind = kind; value = record { at = old.at + length whole - length value; len = length value } }

  -- what remains after an attribute, by the cursor
  pub attributes_behind : attributes_left b old ≡ attribute_told b told ∷ attributes_left b (record { at = old.at + length whole; end = old.end })
  attributes_behind =
      let all : between b old.at (old.at + length whole - length value + length value) ≡ whole =
      ap (λ (k : ℕ). take k (drop old.at b)) (let n : old.at + length whole - length value + length value - old.at ≡ length whole = omega (arith, parts) in n)
      ∙ front_at b old.at old.end (length whole) whole rest lies.in_order lies.within refl begins in
      let inner : take (length value) (drop (old.at + length whole - length value) b) ≡ value =
      ap (λ (k : ℕ). take (length value) (drop k b)) (let n : old.at + length whole - length value ≡ old.at + length head = omega (arith, parts) in n)
      ∙ value_at b old.at old.end head value rest lies.in_order lies.within (begins ∙ ap (λ (x : List ℕ). x ++ rest) octets) in
      ap (placed_from old.at) (pieces_behind TlvValue IsTlv one_tlv IsTlv-reads b old.at old.end tlv rest lies.in_order lies.within first (old.at + length whole) long)
      ∙ ap₂ (λ (w v : List ℕ). record { at = old.at; tlv = record { flags = flags; kind = kind; whole = w; value = v } } ∷ attributes_left b (record { at = old.at + length whole; end = old.end })) (sym all) (sym inner)
