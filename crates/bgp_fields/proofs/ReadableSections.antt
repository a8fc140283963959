-- Withdrawn Routes, attributes that are kept and parameters of an OPEN can be read to their end.
use Rattle.bgp_fields.proofs.Prelude.{◌≡◌, ℕ, ◌+◌, ◌<◌, ◌≤◌, ◌==◌, Bool, true, false, cond, List, [], ◌∷◌, ◌++◌, length, Some, None, refl, sym, ap, subst}
use Rattle.bgp_fields.proofs.Prelude.{◌∙◌, append_assoc, arith, AllByRecursion, le-ltb, length-append, eqb-suc-zero, MULTIPROTOCOL, FOUR_OCTET_AS}
use Rattle.bgp_fields.proofs.Prelude.{CAPABILITIES, AreOctets, Row, AreOctets-front, AreOctets-back, Capability, Context, multi_of, as4_of, capability_of}
use Rattle.bgp_fields.proofs.Prelude.{IsCapability, IsParameter, PrefixValue, IsPrefix, Attr, is_extended, judgement, TlvValue, length_width}
use Rattle.bgp_fields.proofs.Prelude.{number_of_length, IsTlv, Judged, FieldKind, SectionPart, ValuePart, leaf, first_of, two_of, prefix_len, nothing_inside}
use Rattle.bgp_fields.proofs.Prelude.{attribute_value, attribute_len, capability_value, capability_behind}
use Rattle.bgp_fields.proofs.Readable.{ValueRead, SectionRead, value-none, section-none, value-front, section-front, section-behind}
use Rattle.bgp_fields.proofs.ReadableValues.{prefix-long}
use Rattle.bgp_fields.proofs.ReadableAttributes.{kept-read}
use Rattle.bgp_fields.proofs.Steps.{width-some}

-- the length field of an attribute, of the width given by its flags
pub attribute-long : (extended : Bool) (size back : List ℕ) → length size ≡ cond extended 2 1
    → cond extended (two_of (size ++ back)) (first_of (size ++ back)) ≡ number_of_length size
attribute-long true [] back e = absurd (omega (arith, e))
attribute-long true (x ∷ []) back e = absurd (omega (arith, e))
attribute-long true (x ∷ y ∷ []) back e = refl
attribute-long true (x ∷ y ∷ z ∷ size) back e = absurd (omega (arith, e))
attribute-long false [] back e = absurd (omega (arith, e))
attribute-long false (x ∷ []) back e = refl
attribute-long false (x ∷ y ∷ size) back e = absurd (omega (arith, e))

module _ (ctx : Context) where
  -- ---- Withdrawn Routes

  pub withdrawn-read : (ps : List PrefixValue) (b : List ℕ) → Row (IsPrefix 4) ps b → SectionRead ctx SectionPart.Withdrawn b
  withdrawn-read [] b row = subst (SectionRead ctx SectionPart.Withdrawn) (sym row) (section-none ctx SectionPart.Withdrawn)
  withdrawn-read (p ∷ ps) b row =
      let is = row.3 in
      let long = prefix-long 4 p row.0 is in
      subst (SectionRead ctx SectionPart.Withdrawn) (sym row.2)
      (section-front ctx SectionPart.Withdrawn row.0 row.1 None FieldKind.WithdrawnPrefix (prefix_len 4 p.len) SectionPart.Withdrawn
      (ap (λ (c : List ℕ). leaf nothing_inside FieldKind.WithdrawnPrefix (prefix_len 4 (first_of (c ++ row.1))) SectionPart.Withdrawn) is.octets)
      long (omega (arith, sym long, ap length is.octets)) refl (withdrawn-read ps row.1 row.4))

  -- ---- attributes

  -- the attributes of a row, each of which is kept
  abbrev pub AreKept : Bool → List TlvValue → Type 0
  AreKept has_nlri ts = AllByRecursion (λ t. (a : Attr) × (judgement ctx has_nlri t ≡ Judged.Keep a)) ts

  attribute-read : (has_nlri : Bool) (t : TlvValue) (a : Attr) (front back : List ℕ) → IsTlv t front → AreOctets t.value → judgement ctx has_nlri t ≡ Judged.Keep a
      → SectionRead ctx SectionPart.AttributeFlags back → SectionRead ctx SectionPart.AttributeFlags (front ++ back)
  attribute-read has_nlri t a front back is octets keeps later =
      let rest = is.size ++ (t.value ++ back) in
      let grouped : front ++ back ≡ t.flags ∷ t.kind ∷ rest =
      ap (λ (b : List ℕ). b ++ back) is.octets ∙ ap (λ (b : List ℕ). t.flags ∷ t.kind ∷ b) (append_assoc is.size t.value back) in
      let says : attribute_len t.flags rest ≡ length t.value = attribute-long (is_extended t.flags) is.size (t.value ++ back) is.wide ∙ sym is.counted in
      subst (SectionRead ctx SectionPart.AttributeFlags) (sym grouped)
      (section-front ctx SectionPart.AttributeFlags (t.flags ∷ []) (t.kind ∷ rest) (Some t.kind) FieldKind.AttributeFlags 1 (SectionPart.AttributeType t.flags) refl refl (omega arith) refl
      (section-front ctx (SectionPart.AttributeType t.flags) (t.kind ∷ []) rest None FieldKind.AttributeType 1 (SectionPart.AttributeLength t.flags t.kind) refl refl (omega arith) refl
      (section-behind ctx (SectionPart.AttributeLength t.flags t.kind) is.size t.value back FieldKind.AttributeLength (length_width t.flags) (attribute_value ctx t.kind)
      (attribute_len t.flags rest) SectionPart.AttributeFlags refl is.wide (width-some t.flags) (sym says) refl
      (kept-read ctx t has_nlri a octets keeps) later)))

  pub value-octets : (t : TlvValue) (front : List ℕ) → IsTlv t front → AreOctets front → AreOctets t.value
  value-octets t front is octets = AreOctets-back (t.flags ∷ t.kind ∷ is.size) t.value (subst AreOctets is.octets octets)

  pub attributes-read : (has_nlri : Bool) (ts : List TlvValue) (b : List ℕ) → Row IsTlv ts b → AreOctets b → AreKept has_nlri ts → SectionRead ctx SectionPart.AttributeFlags b
  attributes-read has_nlri [] b row octets kept = subst (SectionRead ctx SectionPart.AttributeFlags) (sym row) (section-none ctx SectionPart.AttributeFlags)
  attributes-read has_nlri (t ∷ ts) b row octets kept =
      let all : AreOctets (row.0 ++ row.1) = subst AreOctets row.2 octets in
      subst (SectionRead ctx SectionPart.AttributeFlags) (sym row.2)
      (attribute-read has_nlri t kept.0.0 row.0 row.1 row.3 (value-octets t row.0 row.3 (AreOctets-front row.0 row.1 all)) kept.0.1
      (attributes-read has_nlri ts row.1 row.4 (AreOctets-back row.0 row.1 all) kept.1))

  -- ---- capabilities

  multi-read : (v back : List ℕ) (c : Capability) → multi_of v ≡ Some c → ValueRead ctx ValuePart.CapabilityCode back
      → (length v ≡ 4) × ValueRead ctx ValuePart.CapabilityAfi (v ++ back)
  multi-read (a ∷ b ∷ r ∷ s ∷ []) back c e later = (
    refl,
    value-front ctx ValuePart.CapabilityAfi (a ∷ b ∷ []) (r ∷ s ∷ back) None FieldKind.Afi 2 ValuePart.CapabilityReserved refl refl (omega arith) refl
        (value-front ctx ValuePart.CapabilityReserved (r ∷ []) (s ∷ back) None FieldKind.Reserved 1 ValuePart.CapabilitySafi refl refl (omega arith) refl
        (value-front ctx ValuePart.CapabilitySafi (s ∷ []) back None FieldKind.Safi 1 ValuePart.CapabilityCode refl refl (omega arith) refl later)),
  )
  multi-read [] back c e later = absurd cc
  multi-read (a ∷ []) back c e later = absurd cc
  multi-read (a ∷ b ∷ []) back c e later = absurd cc
  multi-read (a ∷ b ∷ r ∷ []) back c e later = absurd cc
  multi-read (a ∷ b ∷ r ∷ s ∷ x ∷ v) back c e later = absurd cc

  as4-long : (v : List ℕ) (c : Capability) → as4_of v ≡ Some c → length v ≡ 4
  as4-long (a ∷ b ∷ r ∷ s ∷ []) c e = refl
  as4-long [] c e = absurd cc
  as4-long (a ∷ []) c e = absurd cc
  as4-long (a ∷ b ∷ []) c e = absurd cc
  as4-long (a ∷ b ∷ r ∷ []) c e = absurd cc
  as4-long (a ∷ b ∷ r ∷ s ∷ x ∷ v) c e = absurd cc

  value-by : (code : ℕ) (v back : List ℕ) (c : Capability) (multi four : Bool) → (code == MULTIPROTOCOL) ≡ multi → (code == FOUR_OCTET_AS) ≡ four → 0 < length v
      → capability_of code v ≡ Some c → ValueRead ctx ValuePart.CapabilityCode back → ValueRead ctx (capability_value code (length v)) (v ++ back)
  value-by code v back c true four m f some e later =
      let read = multi-read v back c (rw m at e) later in
      let is : capability_value code (length v) ≡ ValuePart.CapabilityAfi = rw (m, read.0) refl in
      subst (λ (part : ValuePart). ValueRead ctx part (v ++ back)) (sym is) read.1
  value-by code v back c false true m f some e later =
      let long = as4-long v c (rw (m, f) at e) in
      let is : capability_value code (length v) ≡ ValuePart.Capability FieldKind.AsNumber 4 = rw (m, f, long) refl in
      subst (λ (part : ValuePart). ValueRead ctx part (v ++ back)) (sym is)
      (value-front ctx (ValuePart.Capability FieldKind.AsNumber 4) v back None FieldKind.AsNumber 4 ValuePart.CapabilityCode refl long (omega arith) refl later)
  value-by code v back c false false m f some e later =
      let is : capability_value code (length v) ≡ ValuePart.Capability FieldKind.CapabilityValue (length v) = rw (m, f) refl in
      subst (λ (part : ValuePart). ValueRead ctx part (v ++ back)) (sym is)
      (value-front ctx (ValuePart.Capability FieldKind.CapabilityValue (length v)) v back None FieldKind.CapabilityValue (length v) ValuePart.CapabilityCode refl refl some refl later)

  behind-read : (code : ℕ) (v back : List ℕ) (c : Capability) (n : ℕ) → 1 + length v ≤ n → capability_of code v ≡ Some c → ValueRead ctx ValuePart.CapabilityCode back
      → ValueRead ctx (capability_behind code (length v) n) (v ++ back)
  behind-read code [] back c n room e later =
      let is : capability_behind code 0 n ≡ ValuePart.CapabilityCode = rw (le-ltb n (1 + 0) room) refl in
      subst (λ (part : ValuePart). ValueRead ctx part back) (sym is) later
  behind-read code (x ∷ v) back c n room e later =
      let is : capability_behind code (length (x ∷ v)) n ≡ capability_value code (length (x ∷ v)) = rw (le-ltb n (1 + length (x ∷ v)) room, eqb-suc-zero (length v)) refl in
      subst (λ (part : ValuePart). ValueRead ctx part ((x ∷ v) ++ back)) (sym is)
      (value-by code (x ∷ v) back c (code == MULTIPROTOCOL) (code == FOUR_OCTET_AS) refl refl (omega arith) e later)

  pub capabilities-read : (cs : List Capability) (b : List ℕ) → Row IsCapability cs b → ValueRead ctx ValuePart.CapabilityCode b
  capabilities-read [] b row = subst (ValueRead ctx ValuePart.CapabilityCode) (sym row) (value-none ctx ValuePart.CapabilityCode)
  capabilities-read (c ∷ cs) b row =
      let is = row.3 in
      let n = length is.value in
      let back = row.1 in
      subst (ValueRead ctx ValuePart.CapabilityCode) (sym (row.2 ∙ ap (λ (x : List ℕ). x ++ back) is.octets))
      (value-front ctx ValuePart.CapabilityCode (is.code ∷ []) (n ∷ (is.value ++ back)) (Some is.code) FieldKind.CapabilityCode 1 (ValuePart.CapabilityLength is.code) refl refl (omega arith) refl
      (value-front ctx (ValuePart.CapabilityLength is.code) (n ∷ []) (is.value ++ back) None FieldKind.CapabilityLength 1
      (capability_behind is.code n (length (n ∷ (is.value ++ back)))) refl refl (omega arith) refl
      (behind-read is.code is.value back c (length (n ∷ (is.value ++ back))) (omega (arith, length-append is.value back)) is.means (capabilities-read cs back row.4))))

  pub parameters-read : (ps : List (List Capability)) (b : List ℕ) → Row IsParameter ps b → SectionRead ctx SectionPart.ParameterType b
  parameters-read [] b row = subst (SectionRead ctx SectionPart.ParameterType) (sym row) (section-none ctx SectionPart.ParameterType)
  parameters-read (cs ∷ ps) b row =
      let is = row.3 in
      let held = is.holds in
      let back = row.1 in
      subst (SectionRead ctx SectionPart.ParameterType) (sym (row.2 ∙ ap (λ (x : List ℕ). x ++ back) (is.octets ∙ ap (λ (v : List ℕ). CAPABILITIES ∷ v) held.octets)))
      (section-front ctx SectionPart.ParameterType (CAPABILITIES ∷ []) (length held.row ∷ (held.row ++ back)) (Some CAPABILITIES) FieldKind.ParameterType 1
      (SectionPart.ParameterLength CAPABILITIES) refl refl (omega arith) refl
      (section-behind ctx (SectionPart.ParameterLength CAPABILITIES) (length held.row ∷ []) held.row back FieldKind.ParameterLength 1 ValuePart.CapabilityCode (length held.row)
      SectionPart.ParameterType refl refl (omega arith) refl refl (capabilities-read cs held.row held.spelled) (parameters-read ps back row.4)))
