-- The prefix fields of an UPDATE without a reset are its routes.
use Rattle.bgp_fields.proofs.Prelude.{◌≡◌, ℕ, ◌-◌, ◌<◌, Bool, false, List, [], ◌∷◌, ◌++◌, length, take, None, refl, sym, ap, ap₂, subst, ◌∙◌, arith, w16}
use Rattle.bgp_fields.proofs.Prelude.{to_be_bytes, flat_map, option_or, take_at, flat_map-cons, flat_map-append, from_be_bytes-to_be_bytes_2, append-nil}
use Rattle.bgp_fields.proofs.Prelude.{Kind, header, marker, code_of, AreOctets, none_of_them, AreOctets-front, AreOctets-back, Splits-pieces, nothing_at}
use Rattle.bgp_fields.proofs.Prelude.{Context, PrefixValue, run_of, Judged, TlvValue, IsTlv, one_tlv, tlvs_of, placed_from, IsTlv-reads, Mark, marks_behind}
use Rattle.bgp_fields.proofs.Prelude.{cut_mark, field_marks, marks_of, Parts, IsBody, kept_by, kept_of, reset_by, first_reset, reset_of_run, reset_of}
use Rattle.bgp_fields.proofs.Prelude.{has_nlri, or-parts, with_cut-kept, run-row, FieldKind, MessagePart, SectionPart, section_fields, fields_of, alone}
use Rattle.bgp_fields.proofs.Prelude.{behind, two_of, message_plan, prefixes_shown}
use Rattle.bgp_fields.proofs.Showing.{is_prefix, pick, pick-nil, shows-step, shows-leaf}
use Rattle.bgp_fields.proofs.ShowingAttributes.{attr_shown, judged_shown}
use Rattle.bgp_fields.proofs.ShowingSections.{SectionShows, MessageShows, none-section, withdrawn-shows, nlri-shows, marks_shown, attributes-show}

-- ---- marks

resets-front : (ms ns : List Mark) → first_reset (ms ++ ns) ≡ None → first_reset ms ≡ None
resets-front [] ns e = refl
resets-front (m ∷ ms) ns e =
    let parts = or-parts (reset_by m.judged) (first_reset (ms ++ ns)) e in
    ap₂ (λ a b. option_or a b) parts.0 (resets-front ms ns parts.1)

module _ (ctx : Context) (chosen : FieldKind → Bool) where
  shown : List Mark → List PrefixValue
  shown ms = marks_shown ctx chosen ms

  mark-kept : (j : Judged) → judged_shown ctx chosen j ≡ flat_map (attr_shown ctx chosen) (kept_by j)
  mark-kept (Judged.Keep a) = sym (append-nil (attr_shown ctx chosen a))
  mark-kept (Judged.Discard w) = refl
  mark-kept (Judged.Withdraw w) = refl
  mark-kept (Judged.Reset n) = refl

  -- what is shown is what the kept attributes show
  marks-kept : (ms : List Mark) → marks_shown ctx chosen ms ≡ flat_map (attr_shown ctx chosen) (kept_of ms)
  marks-kept [] = refl
  marks-kept (m ∷ ms) =
      flat_map-cons (λ (n : Mark). judged_shown ctx chosen n.judged) m ms
      ∙ ap₂ (λ (x y : List PrefixValue). x ++ y) (mark-kept m.judged) (marks-kept ms)
      ∙ sym (flat_map-append (attr_shown ctx chosen) (kept_by m.judged) (kept_of ms))
      ∙ ap (flat_map (attr_shown ctx chosen)) (sym (flat_map-cons (λ (n : Mark). kept_by n.judged) m ms))

  pub field-shows : (nlri : Bool) (b : List ℕ) → AreOctets b → first_reset (field_marks ctx nlri b) ≡ None
      → SectionShows ctx chosen SectionPart.AttributeFlags b (flat_map (attr_shown ctx chosen) (kept_of (field_marks ctx nlri b)))
  unfolding field_marks
  field-shows nlri b octets goes =
      let ts = (tlvs_of b).0 in
      let rest = (tlvs_of b).1 in
      let ms = marks_behind ctx nlri none_of_them (placed_from 0 ts) in
      let s = Splits-pieces TlvValue IsTlv one_tlv IsTlv-reads b in
      let same : flat_map (attr_shown ctx chosen) (kept_of (ms ++ cut_mark (length b - length rest) rest)) ≡ marks_shown ctx chosen ms =
      ap (flat_map (attr_shown ctx chosen)) (with_cut-kept ms (length b - length rest) rest) ∙ sym (marks-kept ms) in
      subst (SectionShows ctx chosen SectionPart.AttributeFlags b) (sym same)
      (subst (λ (c : List ℕ). SectionShows ctx chosen SectionPart.AttributeFlags c (marks_shown ctx chosen ms)) (sym s.whole)
      (attributes-show ctx chosen nlri none_of_them 0 ts s.row rest s.spelled (AreOctets-front s.row rest (subst AreOctets s.whole octets))
      (nothing_at TlvValue IsTlv one_tlv IsTlv-reads b) (resets-front ms (cut_mark (length b - length rest) rest) goes)))

  -- ---- the body, and the header

  message-leaf : (part : MessagePart) (front back : List ℕ) (kind : FieldKind) (n : ℕ) (next : MessagePart) (later : List PrefixValue)
      → message_plan part (front ++ back) ≡ alone kind n next → length front ≡ n → 0 < n → is_prefix kind ≡ false
      → MessageShows ctx chosen next back later → MessageShows ctx chosen part (front ++ back) later
  message-leaf part front back kind n next later is long some known behind_it =
      shows-leaf chosen SectionPart MessagePart (MessagePart.All FieldKind.Unread) message_plan (section_fields ctx) part front back (alone kind n next) later is long some refl known
      (λ at group. none-section ctx chosen (SectionPart.All FieldKind.Unread) at group) behind_it

  body-shows : (p : Parts) (body : List ℕ) (withdrawn attributes nlri : List PrefixValue) → IsBody p body
      → SectionShows ctx chosen SectionPart.Withdrawn p.withdrawn withdrawn → SectionShows ctx chosen SectionPart.AttributeFlags p.attributes attributes
      → MessageShows ctx chosen MessagePart.Nlri p.nlri nlri → MessageShows ctx chosen MessagePart.WithdrawnLength body (withdrawn ++ (attributes ++ nlri))
  body-shows p body withdrawn attributes nlri is w a n =
      let size = to_be_bytes w16 (length p.attributes) in
      let rest = size ++ (p.attributes ++ p.nlri) in
      let front = to_be_bytes w16 (length p.withdrawn) in
      subst (λ (c : List ℕ). MessageShows ctx chosen MessagePart.WithdrawnLength c (withdrawn ++ (attributes ++ nlri))) (sym is.octets)
      (shows-step chosen SectionPart MessagePart (MessagePart.All FieldKind.Unread) message_plan (section_fields ctx) MessagePart.WithdrawnLength front p.withdrawn rest
      (behind FieldKind.WithdrawnLength 2 SectionPart.Withdrawn (two_of (front ++ (p.withdrawn ++ rest))) MessagePart.AttributesLength) [] withdrawn (attributes ++ nlri)
      refl refl (omega arith) (sym (from_be_bytes-to_be_bytes_2 (length p.withdrawn) is.withdrawn_fits)) (pick-nil (chosen FieldKind.WithdrawnLength)) w
      (shows-step chosen SectionPart MessagePart (MessagePart.All FieldKind.Unread) message_plan (section_fields ctx) MessagePart.AttributesLength size p.attributes p.nlri
      (behind FieldKind.AttributesLength 2 SectionPart.AttributeFlags (two_of rest) MessagePart.Nlri) [] attributes nlri
      refl refl (omega arith) (sym (from_be_bytes-to_be_bytes_2 (length p.attributes) is.attributes_fit)) (pick-nil (chosen FieldKind.AttributesLength)) a n))

  header-shows : (n : ℕ) (body : List ℕ) (ps : List PrefixValue) → MessageShows ctx chosen MessagePart.WithdrawnLength body ps
      → MessageShows ctx chosen MessagePart.Marker (header Kind.Update n ++ body) ps
  header-shows n body ps later =
      message-leaf MessagePart.Marker marker (to_be_bytes w16 n ++ (code_of Kind.Update ∷ body)) FieldKind.Marker 16 MessagePart.Length ps refl refl (omega arith) refl
      (message-leaf MessagePart.Length (to_be_bytes w16 n) (code_of Kind.Update ∷ body) FieldKind.MessageLength 2 MessagePart.Kind ps refl refl (omega arith) refl
      (message-leaf MessagePart.Kind (code_of Kind.Update ∷ []) body FieldKind.MessageType 1 MessagePart.WithdrawnLength ps refl refl (omega arith) refl later))

  -- all prefixes of these kinds that an UPDATE shows
  pub update-shows : (p : Parts) (n : ℕ) (body : List ℕ) → AreOctets body → IsBody p body → reset_of p (marks_of ctx p) ≡ None
      → prefixes_shown chosen (header Kind.Update n ++ body) (fields_of ctx (header Kind.Update n ++ body))
      ≡ pick (chosen FieldKind.WithdrawnPrefix) (run_of 4 p.withdrawn).0
      ++ (flat_map (attr_shown ctx chosen) (kept_of (marks_of ctx p)) ++ pick (chosen FieldKind.NlriPrefix) (run_of 4 p.nlri).0)
  update-shows p n body octets is goes =
      let marks = marks_of ctx p in
      let whole = header Kind.Update n ++ body in
      let resets = or-parts (first_reset marks) _ goes in
      let runs = or-parts (reset_of_run p.withdrawn) (reset_of_run p.nlri) resets.1 in
      let later : AreOctets (p.withdrawn ++ (to_be_bytes w16 (length p.attributes) ++ (p.attributes ++ p.nlri))) =
      AreOctets-back (to_be_bytes w16 (length p.withdrawn)) _ (subst AreOctets is.octets octets) in
      let behind_it : AreOctets (p.attributes ++ p.nlri) = AreOctets-back (to_be_bytes w16 (length p.attributes)) _ (AreOctets-back p.withdrawn _ later) in
      header-shows n body _
      (body-shows p body _ _ _ is (withdrawn-shows ctx chosen (run_of 4 p.withdrawn).0 p.withdrawn (run-row p.withdrawn runs.0))
      (field-shows (has_nlri p) p.attributes (AreOctets-front p.attributes p.nlri behind_it) resets.0)
      (nlri-shows ctx chosen (run_of 4 p.nlri).0 p.nlri (run-row p.nlri runs.1)))
      whole 0 None (ap (take (length whole)) (sym (append-nil whole)) ∙ take_at whole [] (length whole) refl)
