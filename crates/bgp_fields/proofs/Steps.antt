-- One step of an iterator of fields.
use Rattle.bgp_fields.proofs.Prelude.{◌≡◌, ℕ, ◌+◌, ◌-◌, ◌<◌, ◌≤◌, cond, Bool, true, false, List, [], ◌∷◌, ◌++◌, length, take, drop, Option, Some, None, refl}
use Rattle.bgp_fields.proofs.Prelude.{sym, ap, ap₂, ◌∙◌, arith, length-drop, length-take-le, drop-drop, append_assoc, is_extended, length_width}
use Rattle.bgp_fields.proofs.Prelude.{Field, Group, FieldKind, Unread, AttributeFlags, AttributeType, AttributeLength, MessagePart, SectionPart, ValuePart}
use Rattle.bgp_fields.proofs.Prelude.{no_fields, value_fields_in, section_fields_in, message_fields_in, value_plan_in, section_plan_in, message_plan_in, leaf, opening}
use Rattle.bgp_fields.proofs.Prelude.{nothing_inside, attribute_value, attribute_len, IsHead, head_fields, value_planned, section_planned, message_planned}
use Rattle.bgp_fields.proofs.Prelude.{Plan, fit, group_from}
use Rattle.bgp_fields.specs.declared.head.Head.{Head}
use Rattle.bgp_fields.specs.declared.plan.ValuePlan.{ValuePlan}
use Rattle.bgp_fields.specs.declared.plan.SectionPlan.{SectionPlan}
use Rattle.bgp_fields.specs.declared.plan.MessagePlan.{MessagePlan}
use Rattle.bgp_fields.specs.Parts as Parts
use Rattle.bgp_fields.proofs.Walks.{Fits, fit-same, walk-none, walk-told, walk-split, fits-told}
use Rattle.bgp_fields.specs.declared.reading.Reading.{Reading}

-- a field of a value
pub value-next : (r : Reading) (part : ValuePart) (at : ℕ) (group g : Option Group) (b rest : List ℕ) (p : ValuePlan)
    → 0 < length b → value_planned p ≡ fit (ValuePart.All Unread) (value_plan_in r part b) (length b) → g ≡ group_from at p.begins group → rest ≡ drop p.len b
    → value_fields_in r part at group b ≡ record { at = at; len = p.len; kind = p.kind; group = g } ∷ value_fields_in r p.next (at + p.len) g rest
value-next r part at group g b rest p some e group_is rest_is =
    walk-split (Unit {0}) ValuePart (ValuePart.All Unread) (value_plan_in r) no_fields part at group g b [] rest (value_planned p) some e group_is refl rest_is
    ∙ ap (λ (n : ℕ). record { at = at; len = p.len; kind = p.kind; group = g } ∷ value_fields_in r p.next n g rest) (omega arith)

-- a field of a row
pub row-next : (r : Reading) (part : ValuePart) (kind : FieldKind) (width at : ℕ) (group : Option Group) (b rest : List ℕ)
    → part ≡ ValuePart.Row kind width → 0 < width → width ≤ length b → rest ≡ drop width b
    → value_fields_in r part at group b ≡ record { at = at; len = width; kind = kind; group = group } ∷ value_fields_in r part (at + width) group rest
row-next r part kind width at group b rest row some fits rest_is =
    let p : ValuePlan = record { kind = kind; len = width; begins = None; next = ValuePart.Row kind width } in
    rw row
    (value-next r (ValuePart.Row kind width) at group group b rest p (omega (arith, some, fits))
    (sym (fit-same (Unit {0}) ValuePart (ValuePart.All Unread) (value_planned p) (length b) (some, omega (arith, fits)))) refl rest_is)

-- and what follows the value
pub value-step : (r : Reading) (part : ValuePart) (at : ℕ) (group : Option Group) (b : List ℕ) (later : ℕ → List Field)
    (p : ValuePlan) (g : Option Group) (rest : List ℕ)
    → 0 < length b → value_planned p ≡ fit (ValuePart.All Unread) (value_plan_in r part b) (length b) → g ≡ group_from at p.begins group → rest ≡ drop p.len b
    → value_fields_in r part at group b ++ later (at + length b)
    ≡ record { at = at; len = p.len; kind = p.kind; group = g } ∷ (value_fields_in r p.next (at + p.len) g rest ++ later (at + p.len + length rest))
value-step r part at group b later p g rest some e group_is rest_is =
    let fits = fits-told (Unit {0}) ValuePart (ValuePart.All Unread) (value_plan_in r) no_fields part b (value_planned p) some e in
    ap₂ (λ (fs gs : List Field). fs ++ gs) (value-next r part at group g b rest p some e group_is rest_is)
    (ap later (omega (arith, ap length rest_is, length-drop p.len b, fits.1)))

-- the length of an attribute has at least one octet
pub width-some : (flags : ℕ) → 0 < length_width flags
width-some flags = width-by (is_extended flags)
  where
    width-by : (extended : Bool) → 0 < cond extended 2 1
    width-by true = omega arith
    width-by false = omega arith

-- a field of a section, by its plan
pub section-next : (r : Reading) (part : SectionPart) (at : ℕ) (group g : Option Group) (b inner rest : List ℕ) (p : Plan ValuePart SectionPart)
    → section_plan_in r part b ≡ p → Fits ValuePart SectionPart (length b) p → g ≡ group_from at p.begins group
    → inner ≡ take p.inner_len (drop p.len b) → rest ≡ drop p.inner_len (drop p.len b)
    → section_fields_in r part at group b
    ≡ record { at = at; len = p.len; kind = p.kind; group = g } ∷ (value_fields_in r p.inner (at + p.len) g inner ++ section_fields_in r p.next (at + p.len + p.inner_len) g rest)
section-next r part at group g b inner rest p is fits group_is inner_is rest_is =
    walk-split ValuePart SectionPart (SectionPart.All Unread) (section_plan_in r) (value_fields_in r) part at group g b inner rest p (omega (arith, fits.0, fits.1))
    (sym (ap (λ (q : Plan ValuePart SectionPart). fit (SectionPart.All Unread) q (length b)) is ∙ fit-same ValuePart SectionPart (SectionPart.All Unread) p (length b) fits))
    group_is inner_is rest_is

-- the same for a field with nothing inside
section-leaf : (r : Reading) (part : SectionPart) (at : ℕ) (group g : Option Group) (b rest : List ℕ) (p : Plan ValuePart SectionPart)
    → section_plan_in r part b ≡ p → Fits ValuePart SectionPart (length b) p → p.inner_len ≡ 0 → g ≡ group_from at p.begins group → rest ≡ drop p.len b
    → section_fields_in r part at group b ≡ record { at = at; len = p.len; kind = p.kind; group = g } ∷ section_fields_in r p.next (at + p.len) g rest
section-leaf r part at group g b rest p is fits none group_is rest_is =
    section-next r part at group g b [] rest p is fits group_is
    (ap (λ (n : ℕ). take n (drop p.len b)) (sym none)) (rest_is ∙ ap (λ (n : ℕ). drop n (drop p.len b)) (sym none))
    ∙ ap₂ (λ (fs : List Field) (n : ℕ). record { at = at; len = p.len; kind = p.kind; group = g } ∷ (fs ++ section_fields_in r p.next n g rest))
    (walk-none (Unit {0}) ValuePart (ValuePart.All Unread) (value_plan_in r) no_fields p.inner (at + p.len) g) (omega (arith, none))

-- the octets of a whole attribute and of those after it
pub head-long : (b : List ℕ) (h : Head) → IsHead b h → 2 + h.width + (length h.value.now + length h.rest.now) ≡ length b
head-long b h is =
    let n = attribute_len is.flags is.behind in
    let behind = length-drop h.width is.behind in
    omega (
      arith,
      ap length is.octets,
      ap length is.value ∙ length-take-le n (drop h.width is.behind) (omega (arith, behind, is.whole)),
      ap length is.rest ∙ length-drop n (drop h.width is.behind),
      behind,
      is.whole,
    )

-- the fields of a whole attribute, and of those after it
pub attribute-next : (r : Reading) (at : ℕ) (group : Option Group) (b : List ℕ) (h : Head) → IsHead b h
    → section_fields_in r SectionPart.AttributeFlags at group b
    ≡ head_fields at h.kind h.width
    ++ (value_fields_in r (attribute_value r.ctx h.kind) (at + (2 + h.width)) (Some (record { at = at; code = h.kind })) h.value.now
    ++ section_fields_in r SectionPart.AttributeFlags (at + (2 + h.width) + length h.value.now) (Some (record { at = at; code = h.kind })) h.rest.now)
attribute-next r at group b h is =
    let g : Option Group = Some (record { at = at; code = h.kind }) in
    let n = attribute_len is.flags is.behind in
    let behind : length (drop h.width is.behind) ≡ length is.behind - h.width = length-drop h.width is.behind in
    let long : length h.value.now ≡ n = ap length is.value ∙ length-take-le n (drop h.width is.behind) (omega (arith, behind, is.whole)) in
    let some : 0 < h.width = omega (arith, is.width, width-some is.flags) in
    ap (section_fields_in r SectionPart.AttributeFlags at group) is.octets
    ∙ section-leaf r SectionPart.AttributeFlags at group g (is.flags ∷ h.kind ∷ is.behind) (h.kind ∷ is.behind)
    (opening nothing_inside AttributeFlags h.kind (SectionPart.AttributeType is.flags)) refl (omega arith, omega arith) refl refl refl
    ∙ ap (λ (fs : List Field). record { at = at; len = 1; kind = AttributeFlags; group = g } ∷ fs)
    (section-leaf r (SectionPart.AttributeType is.flags) (at + 1) g g (h.kind ∷ is.behind) is.behind
    (leaf nothing_inside AttributeType 1 (SectionPart.AttributeLength is.flags h.kind)) refl (omega arith, omega arith) refl refl refl
    ∙ ap (λ (fs : List Field). record { at = at + 1; len = 1; kind = AttributeType; group = g } ∷ fs)
    (ap (λ (m : ℕ). section_fields_in r (SectionPart.AttributeLength is.flags h.kind) m g is.behind) (omega arith)
    ∙ section-next r (SectionPart.AttributeLength is.flags h.kind) (at + 2) g g is.behind h.value.now h.rest.now
    (Parts.behind AttributeLength h.width (attribute_value r.ctx h.kind) n SectionPart.AttributeFlags)
    (ap (λ (w : ℕ). Parts.behind AttributeLength w (attribute_value r.ctx h.kind) n SectionPart.AttributeFlags) (sym is.width)) (some, is.whole) refl is.value is.rest
    ∙ ap₂ (λ (m k : ℕ). record { at = at + 2; len = h.width; kind = AttributeLength; group = g }
    ∷ (value_fields_in r (attribute_value r.ctx h.kind) m g h.value.now ++ section_fields_in r SectionPart.AttributeFlags k g h.rest.now))
    (omega arith) (omega (arith, long))))

-- a field of a section: nothing is left of a value
pub section-step : (r : Reading) (v : ValuePart) (vg : Option Group) (vb : List ℕ)
    (part : SectionPart) (at : ℕ) (group : Option Group) (b : List ℕ) (later : ℕ → List Field) (p : SectionPlan) (g : Option Group) (inside rest : List ℕ)
    → length vb ≡ 0 → 0 < length b → section_planned p ≡ fit (SectionPart.All Unread) (section_plan_in r part b) (length b)
    → g ≡ group_from at p.begins group → inside ≡ take p.inner_len (drop p.len b) → rest ≡ drop p.inner_len (drop p.len b)
    → value_fields_in r v at vg vb ++ (section_fields_in r part (at + length vb) group b ++ later (at + length vb + length b))
    ≡ record { at = at; len = p.len; kind = p.kind; group = g }
    ∷ (value_fields_in r p.inner (at + p.len) g inside
    ++ (section_fields_in r p.next (at + p.len + length inside) g rest ++ later (at + p.len + length inside + length rest)))
section-step r v vg (x ∷ vb) part at group b later p g inside rest none some e group_is inside_is rest_is = absurd (omega (arith, none))
section-step r v vg [] part at group b later p g inside rest none some e group_is inside_is rest_is =
    let fits = fits-told ValuePart SectionPart (SectionPart.All Unread) (section_plan_in r) (value_fields_in r) part b (section_planned p) some e in
    let behind : length (drop p.len b) ≡ length b - p.len = length-drop p.len b in
    let inside_len : length inside ≡ p.inner_len = ap length inside_is ∙ length-take-le p.inner_len (drop p.len b) (omega (arith, behind, fits.1)) in
    let rest_len : length rest ≡ length b - p.len - p.inner_len = ap length rest_is ∙ length-drop p.inner_len (drop p.len b) ∙ ap (λ (n : ℕ). n - p.inner_len) behind in
    let start : at + 0 ≡ at = omega arith in
    let ends : at + 0 + length b ≡ at + p.len + length inside + length rest = omega (arith, inside_len, rest_len, fits.1) in
    let inner_ends : at + p.len + p.inner_len ≡ at + p.len + length inside = omega (arith, inside_len) in
    let rest_same : drop (p.len + p.inner_len) b ≡ rest = sym (drop-drop p.inner_len p.len b) ∙ sym rest_is in
    ap (λ (fs : List Field). fs ++ (section_fields_in r part (at + 0) group b ++ later (at + 0 + length b))) (walk-none (Unit {0}) ValuePart (ValuePart.All Unread) (value_plan_in r) no_fields v at vg)
    ∙ ap₂ (λ (n m : ℕ). section_fields_in r part n group b ++ later m) start ends
    ∙ ap (λ (fs : List Field). fs ++ later (at + p.len + length inside + length rest))
    (walk-told ValuePart SectionPart (SectionPart.All Unread) (section_plan_in r) (value_fields_in r) part at group b (section_planned p) some e)
    ∙ ap (λ (fs : List Field). record { at = at; len = p.len; kind = p.kind; group = group_from at p.begins group } ∷ fs)
    (append_assoc (value_fields_in r p.inner (at + p.len) (group_from at p.begins group) (take p.inner_len (drop p.len b)))
    (section_fields_in r p.next (at + p.len + p.inner_len) (group_from at p.begins group) (drop (p.len + p.inner_len) b))
    (later (at + p.len + length inside + length rest)))
    ∙ ap₂ (λ (x : Option Group) (c : List ℕ). record { at = at; len = p.len; kind = p.kind; group = x }
    ∷ (value_fields_in r p.inner (at + p.len) x c
    ++ (section_fields_in r p.next (at + p.len + p.inner_len) x (drop (p.len + p.inner_len) b) ++ later (at + p.len + length inside + length rest)))) (sym group_is) (sym inside_is)
    ∙ ap₂ (λ (n : ℕ) (c : List ℕ). record { at = at; len = p.len; kind = p.kind; group = g }
    ∷ (value_fields_in r p.inner (at + p.len) g inside
    ++ (section_fields_in r p.next n g c ++ later (at + p.len + length inside + length rest)))) inner_ends rest_same

-- a field of a message: nothing is left of a section
pub message-step : (r : Reading) (v : ValuePart) (vg : Option Group) (vb : List ℕ) (s : SectionPart) (sg : Option Group) (sb : List ℕ)
    (part : MessagePart) (at : ℕ) (b : List ℕ) (p : MessagePlan) (inside rest : List ℕ)
    → length vb ≡ 0 → length sb ≡ 0 → 0 < length b → message_planned p ≡ fit (MessagePart.All Unread) ((message_plan_in r.paths) part b) (length b)
    → inside ≡ take p.inner_len (drop p.len b) → rest ≡ drop p.inner_len (drop p.len b)
    → value_fields_in r v at vg vb ++ (section_fields_in r s (at + length vb) sg sb ++ message_fields_in r part (at + length vb + length sb) None b)
    ≡ record { at = at; len = p.len; kind = p.kind; group = None }
    ∷ (value_fields_in r v (at + p.len) vg vb
    ++ (section_fields_in r p.inner (at + p.len + length vb) None inside ++ message_fields_in r p.next (at + p.len + length vb + length inside) None rest))
message-step r v vg (x ∷ vb) s sg sb part at b p inside rest none empty some e inside_is rest_is = absurd (omega (arith, none))
message-step r v vg [] s sg (x ∷ sb) part at b p inside rest none empty some e inside_is rest_is = absurd (omega (arith, empty))
message-step r v vg [] s sg [] part at b p inside rest none empty some e inside_is rest_is =
    let fits = fits-told SectionPart MessagePart (MessagePart.All Unread) (message_plan_in r.paths) (section_fields_in r) part b (message_planned p) some e in
    let behind : length (drop p.len b) ≡ length b - p.len = length-drop p.len b in
    let inside_len : length inside ≡ p.inner_len = ap length inside_is ∙ length-take-le p.inner_len (drop p.len b) (omega (arith, behind, fits.1)) in
    let start : at + 0 + 0 ≡ at = omega arith in
    let inner_at : at + p.len ≡ at + p.len + 0 = omega arith in
    let inner_ends : at + p.len + p.inner_len ≡ at + p.len + 0 + length inside = omega (arith, inside_len) in
    let rest_same : drop (p.len + p.inner_len) b ≡ rest = sym (drop-drop p.inner_len p.len b) ∙ sym rest_is in
    let none_in_value : (n : ℕ) → value_fields_in r v n vg [] ≡ [] = λ n. walk-none (Unit {0}) ValuePart (ValuePart.All Unread) (value_plan_in r) no_fields v n vg in
    let f : Field = record { at = at; len = p.len; kind = p.kind; group = None } in
    ap₂ (λ (fs gs : List Field). fs ++ (gs ++ message_fields_in r part (at + 0 + 0) None b)) (none_in_value at)
    (walk-none ValuePart SectionPart (SectionPart.All Unread) (section_plan_in r) (value_fields_in r) s (at + 0) sg)
    ∙ ap (λ (n : ℕ). message_fields_in r part n None b) start
    ∙ walk-told SectionPart MessagePart (MessagePart.All Unread) (message_plan_in r.paths) (section_fields_in r) part at None b (message_planned p) some e
    ∙ ap₂ (λ (n : ℕ) (c : List ℕ). f ∷ (section_fields_in r p.inner n None c
    ++ message_fields_in r p.next (at + p.len + p.inner_len) None (drop (p.len + p.inner_len) b))) inner_at (sym inside_is)
    ∙ ap₂ (λ (n : ℕ) (c : List ℕ). f ∷ (section_fields_in r p.inner (at + p.len + 0) None inside ++ message_fields_in r p.next n None c)) inner_ends rest_same
    ∙ ap (λ (fs : List Field). f ∷ (fs ++ (section_fields_in r p.inner (at + p.len + 0) None inside ++ message_fields_in r p.next (at + p.len + 0 + length inside) None rest)))
    (sym (none_in_value (at + p.len)))

-- nothing is left
pub nothing-left : (r : Reading) (v : ValuePart) (at : ℕ) (vg : Option Group) (vb : List ℕ) (s : SectionPart) (at_s : ℕ) (sg : Option Group) (sb : List ℕ)
    (m : MessagePart) (at_m : ℕ) (b : List ℕ) → length vb ≡ 0 → length sb ≡ 0 → length b ≡ 0
    → value_fields_in r v at vg vb ++ (section_fields_in r s at_s sg sb ++ message_fields_in r m at_m None b) ≡ []
nothing-left r v at vg (x ∷ vb) s at_s sg sb m at_m b no_v no_s no_m = absurd (omega (arith, no_v))
nothing-left r v at vg [] s at_s sg (x ∷ sb) m at_m b no_v no_s no_m = absurd (omega (arith, no_s))
nothing-left r v at vg [] s at_s sg [] m at_m (x ∷ b) no_v no_s no_m = absurd (omega (arith, no_m))
nothing-left r v at vg [] s at_s sg [] m at_m [] no_v no_s no_m =
    ap₂ (λ (fs gs : List Field). fs ++ (gs ++ message_fields_in r m at_m None []))
    (walk-none (Unit {0}) ValuePart (ValuePart.All Unread) (value_plan_in r) no_fields v at vg)
    (walk-none ValuePart SectionPart (SectionPart.All Unread) (section_plan_in r) (value_fields_in r) s at_s sg)
    ∙ walk-none SectionPart MessagePart (MessagePart.All Unread) (message_plan_in r.paths) (section_fields_in r) m at_m None
