-- The prefixes that Withdrawn Routes, Path Attributes and NLRI show.
use Rattle.bgp_fields.proofs.Prelude.{◌≡◌, ℕ, ◌+◌, ◌<◌, ◌≤◌, nat_le, Bool, true, false, cond, List, [], ◌∷◌, ◌++◌, length, take, drop, Option, None, refl}
use Rattle.bgp_fields.proofs.Prelude.{sym, ap, subst, ◌∙◌, append_assoc, arith, flat_map, leb-true, le-leb, false_from_ne_true, length-take-le}
use Rattle.bgp_fields.proofs.Prelude.{take-append-drop, lt-ltb, append-nil, length-drop, AreOctets, also, Row, AreOctets-front, AreOctets-back, Context}
use Rattle.bgp_fields.proofs.Prelude.{PrefixValue, IsPrefix, is_extended, judgement, TlvValue, length_width, number_of_length, IsTlv, one_tlv, placed_from}
use Rattle.bgp_fields.proofs.Prelude.{Mark, repeated, marks_behind, reset_by, first_reset, or-parts, Group, FieldKind, MessagePart, SectionPart, ValuePart}
use Rattle.bgp_fields.proofs.Prelude.{no_fields, value_fields, section_fields, message_fields, alone, leaf, opening, behind, first_of, prefix_len}
use Rattle.bgp_fields.proofs.Prelude.{nothing_inside, attribute_value, attribute_len, value_plan, section_plan, message_plan, Plan, fit}
use Rattle.bgp_fields.proofs.Walks.{walk-none}
use Rattle.bgp_fields.proofs.ReadableSections.{attribute-long, value-octets}
use Rattle.bgp_fields.proofs.Steps.{width-some}
use Rattle.bgp_fields.proofs.ReadableValues.{prefix-long}
use Rattle.bgp_fields.proofs.Showing.{is_prefix, pick, pick-nil, pick-append, prefix-in, Shows, nothing-shows, shows-fit, shows-step, shows-leaf}
use Rattle.bgp_fields.proofs.ShowingValues.{ValueShows}
use Rattle.bgp_fields.proofs.ShowingAttributes.{judged_shown, judged-shows}

module _ (ctx : Context) (chosen : FieldKind → Bool) where
  abbrev pub SectionShows : SectionPart → List ℕ → List PrefixValue → Type 0
  SectionShows part b ps = Shows chosen (section_fields ctx part) b ps

  abbrev pub MessageShows : MessagePart → List ℕ → List PrefixValue → Type 0
  MessageShows part b ps = Shows chosen (message_fields ctx part) b ps

  none-value : (part : ValuePart) (at : ℕ) (group : Option Group) → value_fields ctx part at group [] ≡ []
  none-value part at group = walk-none (Unit {0}) ValuePart (ValuePart.All FieldKind.Unread) (value_plan ctx) no_fields part at group

  pub none-section : (part : SectionPart) (at : ℕ) (group : Option Group) → section_fields ctx part at group [] ≡ []
  none-section part at group = walk-none ValuePart SectionPart (SectionPart.All FieldKind.Unread) (section_plan ctx) (value_fields ctx) part at group

  nothing-inside : (part : ValuePart) → ValueShows ctx chosen part [] []
  nothing-inside = nothing-shows chosen (Unit {0}) ValuePart (ValuePart.All FieldKind.Unread) (value_plan ctx) no_fields

  pub section-nothing : (part : SectionPart) → SectionShows part [] []
  section-nothing = nothing-shows chosen ValuePart SectionPart (SectionPart.All FieldKind.Unread) (section_plan ctx) (value_fields ctx)

  pub message-nothing : (part : MessagePart) → MessageShows part [] []
  message-nothing = nothing-shows chosen SectionPart MessagePart (MessagePart.All FieldKind.Unread) message_plan (section_fields ctx)

  -- ---- fields of prefixes

  pub withdrawn-shows : (ps : List PrefixValue) (b : List ℕ) → Row (IsPrefix 4) ps b → SectionShows SectionPart.Withdrawn b (pick (chosen FieldKind.WithdrawnPrefix) ps)
  withdrawn-shows [] b row =
      subst (λ (c : List ℕ). SectionShows SectionPart.Withdrawn c (pick (chosen FieldKind.WithdrawnPrefix) [])) (sym row)
      (subst (SectionShows SectionPart.Withdrawn []) (sym (pick-nil (chosen FieldKind.WithdrawnPrefix))) (section-nothing SectionPart.Withdrawn))
  withdrawn-shows (p ∷ ps) b row =
      let is = row.3 in
      let long = prefix-long 4 p row.0 is in
      let n = prefix_len 4 p.len in
      let here = chosen FieldKind.WithdrawnPrefix in
      subst (λ (c : List ℕ). SectionShows SectionPart.Withdrawn c (pick here (p ∷ ps))) (sym row.2)
      (subst (SectionShows SectionPart.Withdrawn (row.0 ++ row.1)) (pick-append here (p ∷ []) ps)
      (shows-step chosen ValuePart SectionPart (SectionPart.All FieldKind.Unread) (section_plan ctx) (value_fields ctx) SectionPart.Withdrawn row.0 [] row.1
      (leaf nothing_inside FieldKind.WithdrawnPrefix n SectionPart.Withdrawn) (pick here (p ∷ [])) [] (pick here ps)
      (ap (λ (c : List ℕ). leaf nothing_inside FieldKind.WithdrawnPrefix (prefix_len 4 (first_of (c ++ row.1))) SectionPart.Withdrawn) is.octets)
      long (omega (arith, sym long, ap length is.octets)) refl (ap (pick here) (prefix-in 4 p row.0 is))
      (nothing-inside nothing_inside)
      (withdrawn-shows ps row.1 row.4)))

  pub nlri-shows : (ps : List PrefixValue) (b : List ℕ) → Row (IsPrefix 4) ps b → MessageShows MessagePart.Nlri b (pick (chosen FieldKind.NlriPrefix) ps)
  nlri-shows [] b row =
      subst (λ (c : List ℕ). MessageShows MessagePart.Nlri c (pick (chosen FieldKind.NlriPrefix) [])) (sym row)
      (subst (MessageShows MessagePart.Nlri []) (sym (pick-nil (chosen FieldKind.NlriPrefix))) (message-nothing MessagePart.Nlri))
  nlri-shows (p ∷ ps) b row =
      let is = row.3 in
      let long = prefix-long 4 p row.0 is in
      let n = prefix_len 4 p.len in
      let here = chosen FieldKind.NlriPrefix in
      subst (λ (c : List ℕ). MessageShows MessagePart.Nlri c (pick here (p ∷ ps))) (sym row.2)
      (subst (MessageShows MessagePart.Nlri (row.0 ++ row.1)) (pick-append here (p ∷ []) ps)
      (shows-step chosen SectionPart MessagePart (MessagePart.All FieldKind.Unread) message_plan (section_fields ctx) MessagePart.Nlri row.0 [] row.1
      (alone FieldKind.NlriPrefix n MessagePart.Nlri) (pick here (p ∷ [])) [] (pick here ps)
      (ap (λ (c : List ℕ). alone FieldKind.NlriPrefix (prefix_len 4 (first_of (c ++ row.1))) MessagePart.Nlri) is.octets)
      long (omega (arith, sym long, ap length is.octets)) refl (ap (pick here) (prefix-in 4 p row.0 is))
      (section-nothing (SectionPart.All FieldKind.Unread)) (nlri-shows ps row.1 row.4)))

  -- ---- attributes

  section-leaf : (part : SectionPart) (front back : List ℕ) (p : Plan ValuePart SectionPart) (later : List PrefixValue)
      → section_plan ctx part (front ++ back) ≡ p → length front ≡ p.len → 0 < p.len → 0 ≡ p.inner_len → is_prefix p.kind ≡ false
      → SectionShows p.next back later → SectionShows part (front ++ back) later
  section-leaf part front back p later is long some none known behind =
      shows-leaf chosen ValuePart SectionPart (SectionPart.All FieldKind.Unread) (section_plan ctx) (value_fields ctx) part front back p later is long some none known
      (λ at group. none-value p.inner at group) behind

  attribute-shows : (t : TlvValue) (front back : List ℕ) (inner later : List PrefixValue) → IsTlv t front → ValueShows ctx chosen (attribute_value ctx t.kind) t.value inner
      → SectionShows SectionPart.AttributeFlags back later → SectionShows SectionPart.AttributeFlags (front ++ back) (inner ++ later)
  attribute-shows t front back inner later is within behind_it =
      let rest = is.size ++ (t.value ++ back) in
      let grouped : front ++ back ≡ t.flags ∷ t.kind ∷ rest =
      ap (λ (b : List ℕ). b ++ back) is.octets ∙ ap (λ (b : List ℕ). t.flags ∷ t.kind ∷ b) (append_assoc is.size t.value back) in
      let long : attribute_len t.flags rest ≡ length t.value = attribute-long (is_extended t.flags) is.size (t.value ++ back) is.wide ∙ sym is.counted in
      subst (λ (b : List ℕ). SectionShows SectionPart.AttributeFlags b (inner ++ later)) (sym grouped)
      (section-leaf SectionPart.AttributeFlags (t.flags ∷ []) (t.kind ∷ rest) (opening nothing_inside FieldKind.AttributeFlags t.kind (SectionPart.AttributeType t.flags)) _ refl refl (omega arith) refl refl
      (section-leaf (SectionPart.AttributeType t.flags) (t.kind ∷ []) rest (leaf nothing_inside FieldKind.AttributeType 1 (SectionPart.AttributeLength t.flags t.kind)) _ refl refl (omega arith) refl refl
      (shows-step chosen ValuePart SectionPart (SectionPart.All FieldKind.Unread) (section_plan ctx) (value_fields ctx) (SectionPart.AttributeLength t.flags t.kind) is.size t.value back
      (behind FieldKind.AttributeLength (length_width t.flags) (attribute_value ctx t.kind) (attribute_len t.flags rest) SectionPart.AttributeFlags) [] inner later
      refl is.wide (width-some t.flags) (sym long) (pick-nil (chosen FieldKind.AttributeLength)) within behind_it)))

  -- ---- an attribute that is cut off

  all-unread : (b : List ℕ) → SectionShows (SectionPart.All FieldKind.Unread) b []
  all-unread [] = section-nothing (SectionPart.All FieldKind.Unread)
  all-unread (x ∷ b) =
      subst (λ (c : List ℕ). SectionShows (SectionPart.All FieldKind.Unread) c []) (append-nil (x ∷ b))
      (section-leaf (SectionPart.All FieldKind.Unread) (x ∷ b) [] (leaf nothing_inside FieldKind.Unread (length (x ∷ b)) (SectionPart.All FieldKind.Unread)) []
      (ap (λ (c : List ℕ). leaf nothing_inside FieldKind.Unread (length c) (SectionPart.All FieldKind.Unread)) (append-nil (x ∷ b))) refl (omega arith) refl refl (section-nothing (SectionPart.All FieldKind.Unread)))

  -- a length by which an attribute goes past the end
  length-cut : (flags kind : ℕ) (b : List ℕ) → (length_width flags + attribute_len flags b ≤ length b → ⊥) → (t : Bool) → nat_le (length_width flags) (length b) ≡ t
      → SectionShows (SectionPart.AttributeLength flags kind) b []
  length-cut flags kind b past true e =
      let w = length_width flags in
      let p = behind FieldKind.AttributeLength w (attribute_value ctx kind) 0 (SectionPart.All FieldKind.Unread) in
      let held = leb-true w (length b) e in
      let long : length (take w b) ≡ w = length-take-le w b held in
      let whole : take w b ++ drop w b ≡ b = take-append-drop w b in
      let plan = section_plan ctx (SectionPart.AttributeLength flags kind) b in
      let cut : fit (SectionPart.All FieldKind.Unread) plan (length b) ≡ p =
      rw (lt-ltb 0 w (width-some flags), e, false_from_ne_true (nat_le (w + attribute_len flags b) (length b)) (λ t. past (leb-true (w + attribute_len flags b) (length b) t))) refl in
      subst (λ (c : List ℕ). SectionShows (SectionPart.AttributeLength flags kind) c []) whole
      (shows-fit chosen ValuePart SectionPart (SectionPart.All FieldKind.Unread) (section_plan ctx) (value_fields ctx) (SectionPart.AttributeLength flags kind) (take w b) [] (drop w b) p [] [] []
      (ap (λ (c : List ℕ). fit (SectionPart.All FieldKind.Unread) (section_plan ctx (SectionPart.AttributeLength flags kind) c) (length c)) whole ∙ cut)
      long (width-some flags) refl (pick-nil (chosen FieldKind.AttributeLength)) (nothing-inside (attribute_value ctx kind)) (all-unread (drop w b)))
  length-cut flags kind [] past false e = section-nothing (SectionPart.AttributeLength flags kind)
  length-cut flags kind (x ∷ b) past false e =
      let w = length_width flags in
      let p = leaf (attribute_value ctx kind) FieldKind.Unread (length (x ∷ b)) (SectionPart.All FieldKind.Unread) in
      let plan = section_plan ctx (SectionPart.AttributeLength flags kind) (x ∷ b) in
      let cut : fit (SectionPart.All FieldKind.Unread) plan (length (x ∷ b)) ≡ p = rw (lt-ltb 0 w (width-some flags), e) refl in
      let whole : (x ∷ b) ++ [] ≡ x ∷ b = append-nil (x ∷ b) in
      subst (λ (c : List ℕ). SectionShows (SectionPart.AttributeLength flags kind) c []) whole
      (shows-fit chosen ValuePart SectionPart (SectionPart.All FieldKind.Unread) (section_plan ctx) (value_fields ctx) (SectionPart.AttributeLength flags kind) (x ∷ b) [] [] p [] [] []
      (ap (λ (c : List ℕ). fit (SectionPart.All FieldKind.Unread) (section_plan ctx (SectionPart.AttributeLength flags kind) c) (length c)) whole ∙ cut)
      refl (omega arith) refl (pick-nil (chosen FieldKind.Unread)) (nothing-inside (attribute_value ctx kind)) (section-nothing (SectionPart.All FieldKind.Unread)))

  no-room : (flags kind : ℕ) (b : List ℕ) → one_tlv (flags ∷ kind ∷ b) ≡ None → length_width flags + attribute_len flags b ≤ length b → ⊥
  unfolding one_tlv
  no-room flags kind b none room =
      let w = length_width flags in
      let held : w ≤ length b = omega (arith, room) in
      let size : length (take w b) ≡ w = length-take-le w b held in
      let says : attribute_len flags b ≡ number_of_length (take w b) =
      ap (attribute_len flags) (sym (take-append-drop w b)) ∙ attribute-long (is_extended flags) (take w b) (drop w b) size in
      let behind_it : number_of_length (take w b) ≤ length (drop w b) = omega (arith, room, sym says, length-drop w b) in
      absurd (let found = rw (le-leb w (length b) held, le-leb (number_of_length (take w b)) (length (drop w b)) behind_it) at none in cc)

  pub cut-shows : (rest : List ℕ) → one_tlv rest ≡ None → SectionShows SectionPart.AttributeFlags rest []
  cut-shows [] none = section-nothing SectionPart.AttributeFlags
  cut-shows (flags ∷ []) none =
      section-leaf SectionPart.AttributeFlags (flags ∷ []) [] (opening nothing_inside FieldKind.AttributeFlags 0 (SectionPart.AttributeType flags)) [] refl refl (omega arith) refl refl
      (section-nothing (SectionPart.AttributeType flags))
  cut-shows (flags ∷ kind ∷ b) none =
      section-leaf SectionPart.AttributeFlags (flags ∷ []) (kind ∷ b) (opening nothing_inside FieldKind.AttributeFlags kind (SectionPart.AttributeType flags)) [] refl refl (omega arith) refl refl
      (section-leaf (SectionPart.AttributeType flags) (kind ∷ []) b (leaf nothing_inside FieldKind.AttributeType 1 (SectionPart.AttributeLength flags kind)) [] refl refl (omega arith) refl refl
      (length-cut flags kind b (no-room flags kind b none) (nat_le (length_width flags) (length b)) refl))

  -- ---- all attributes

  abbrev pub marks_shown : List Mark → List PrefixValue
  marks_shown ms = flat_map (λ m. judged_shown ctx chosen m.judged) ms

  pub attributes-show : (nlri : Bool) (seen : ℕ → Bool) (place : ℕ) (ts : List TlvValue) (row rest : List ℕ) → Row IsTlv ts row → AreOctets row → one_tlv rest ≡ None
      → first_reset (marks_behind ctx nlri seen (placed_from place ts)) ≡ None
      → SectionShows SectionPart.AttributeFlags (row ++ rest) (marks_shown (marks_behind ctx nlri seen (placed_from place ts)))
  attributes-show nlri seen place [] row rest spelled octets none goes =
      subst (λ (c : List ℕ). SectionShows SectionPart.AttributeFlags (c ++ rest) []) (sym spelled) (cut-shows rest none)
  attributes-show nlri seen place (t ∷ ts) row rest spelled octets none goes =
      let all : AreOctets (spelled.0 ++ spelled.1) = subst AreOctets spelled.2 octets in
      let resets = or-parts (reset_by (cond (seen t.kind) (repeated t.kind) (judgement ctx nlri t))) _ goes in
      let later = attributes-show nlri (also t.kind seen) (place + length t.whole) ts spelled.1 rest spelled.4 (AreOctets-back spelled.0 spelled.1 all) none resets.1 in
      let ms = marks_behind ctx nlri (also t.kind seen) (placed_from (place + length t.whole) ts) in
      let grouped : row ++ rest ≡ spelled.0 ++ (spelled.1 ++ rest) = ap (λ (b : List ℕ). b ++ rest) spelled.2 ∙ append_assoc spelled.0 spelled.1 rest in
      subst (λ (c : List ℕ). SectionShows SectionPart.AttributeFlags c (marks_shown (marks_behind ctx nlri seen (placed_from place (t ∷ ts))))) (sym grouped)
      (attribute-shows t spelled.0 (spelled.1 ++ rest) (judged_shown ctx chosen (cond (seen t.kind) (repeated t.kind) (judgement ctx nlri t))) (marks_shown ms) spelled.3
      (judged-shows ctx chosen nlri t (seen t.kind) (value-octets ctx t spelled.0 spelled.3 (AreOctets-front spelled.0 spelled.1 all)) resets.0) later)
