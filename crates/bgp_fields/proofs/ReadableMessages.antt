-- Messages that are accepted without a note can be read to their end.
use Rattle.bgp_fields.proofs.Prelude.{◌≡◌, ℕ, ◌+◌, ◌≤◌, Bool, true, false, cond, List, [], ◌∷◌, ◌++◌, length, Option, Some, refl, sym, ap, subst, arith, w16}
use Rattle.bgp_fields.proofs.Prelude.{to_be_bytes, AllByRecursion, from_be_bytes-to_be_bytes_2, append-nil, kind_of-code_of, AreOctets, also, none_of_them}
use Rattle.bgp_fields.proofs.Prelude.{Row, AreOctets-front, AreOctets-back, Kind, header, marker, code_of, Context, IsOpen, Open, PrefixValue, IsPrefix, Attr}
use Rattle.bgp_fields.proofs.Prelude.{Judged, judgement, TlvValue, IsTlv, one_tlv, tlvs_of, placed_from, IsTlv-reads, Mark, repeated, carries_routes}
use Rattle.bgp_fields.proofs.Prelude.{marks_behind, cut_mark, field_marks, marks_of, Parts, IsBody, first_reset, reset_of_run, Update, has_nlri, parts-body}
use Rattle.bgp_fields.proofs.Prelude.{or-parts, run-row, FieldKind, MessagePart, SectionPart, alone, body_part, first_of, two_of, prefix_len, IsTaken}
use Rattle.bgp_wire.proofs.Behinds.{Row-pieces}
use Rattle.bgp_fields.proofs.Readable.{SectionRead, MessageRead, message-none, message-front, message-behind}
use Rattle.bgp_fields.proofs.ReadableSections.{AreKept, withdrawn-read, attributes-read, parameters-read}
use Rattle.bgp_fields.proofs.ReadableValues.{prefix-long}
use Rattle.bgp_fields.proofs.Verdicts.{IsKept, all-kept}

-- ---- attributes that are all kept

cut-not : (b : Bool) (n : _) (w : _) (a : Attr) → cond b (Judged.Reset n) (Judged.Withdraw w) ≡ Judged.Keep a → ⊥
cut-not true n w a e = absurd cc
cut-not false n w a e = absurd cc

repeated-not : (b : Bool) (n : _) (w : _) (a : Attr) → cond b (Judged.Reset n) (Judged.Discard w) ≡ Judged.Keep a → ⊥
repeated-not true n w a e = absurd cc
repeated-not false n w a e = absurd cc

-- none is cut off
none-cut : (at : ℕ) (ms : List Mark) (rest : List ℕ) → AllByRecursion (λ m. IsKept m.judged) (ms ++ cut_mark at rest) → AllByRecursion (λ m. IsKept m.judged) ms × (rest ≡ [])
none-cut at [] [] all = (tt, refl)
none-cut at [] (flags ∷ rest) all = absurd (cut-not _ _ _ _ all.0.1)
none-cut at (m ∷ ms) rest all = let later = none-cut at ms rest all.1 in ((all.0, later.0), later.1)

module _ (ctx : Context) (nlri : Bool) where
  kept-by : (seen : Bool) (kind : ℕ) (j : Judged) → IsKept (cond seen (repeated kind) j) → IsKept j
  kept-by true kind j kept = absurd (repeated-not (carries_routes kind) _ _ kept.0 kept.1)
  kept-by false kind j kept = kept

  marks-kept : (seen : ℕ → Bool) (at : ℕ) (ts : List TlvValue) → AllByRecursion (λ m. IsKept m.judged) (marks_behind ctx nlri seen (placed_from at ts)) → AreKept ctx nlri ts
  marks-kept seen at [] all = tt
  marks-kept seen at (t ∷ ts) all =
      (kept-by (seen t.kind) t.kind (judgement ctx nlri t) all.0, marks-kept (also t.kind seen) (at + length t.whole) ts all.1)

module _ (ctx : Context) where
  pub field-read : (nlri : Bool) (b : List ℕ) → AreOctets b → AllByRecursion (λ m. IsKept m.judged) (field_marks ctx nlri b) → SectionRead ctx SectionPart.AttributeFlags b
  unfolding field_marks
  field-read nlri b octets all =
      let parts = none-cut _ (marks_behind ctx nlri none_of_them (placed_from 0 (tlvs_of b).0)) (tlvs_of b).1 all in
      attributes-read ctx nlri (tlvs_of b).0 b
      (Row-pieces TlvValue IsTlv one_tlv IsTlv-reads b (tlvs_of b).0 (ap (λ (r : List ℕ). ((tlvs_of b).0, r)) parts.1))
      octets (marks-kept ctx nlri none_of_them 0 (tlvs_of b).0 parts.0)

  -- ---- bodies

  nlri-read : (ps : List PrefixValue) (b : List ℕ) → Row (IsPrefix 4) ps b → MessageRead ctx MessagePart.Nlri b
  nlri-read [] b row = subst (MessageRead ctx MessagePart.Nlri) (sym row) (message-none ctx MessagePart.Nlri)
  nlri-read (p ∷ ps) b row =
      let is = row.3 in
      let long = prefix-long 4 p row.0 is in
      subst (MessageRead ctx MessagePart.Nlri) (sym row.2)
      (message-front ctx MessagePart.Nlri row.0 row.1 FieldKind.NlriPrefix (prefix_len 4 p.len) MessagePart.Nlri
      (ap (λ (c : List ℕ). alone FieldKind.NlriPrefix (prefix_len 4 (first_of (c ++ row.1))) MessagePart.Nlri) is.octets)
      long (omega (arith, sym long, ap length is.octets)) refl (nlri-read ps row.1 row.4))

  pub body-read : (p : Parts) (body : List ℕ) → IsBody p body → SectionRead ctx SectionPart.Withdrawn p.withdrawn → SectionRead ctx SectionPart.AttributeFlags p.attributes
      → MessageRead ctx MessagePart.Nlri p.nlri → MessageRead ctx MessagePart.WithdrawnLength body
  body-read p body is withdrawn attributes nlri =
      let size = to_be_bytes w16 (length p.attributes) in
      let rest = size ++ (p.attributes ++ p.nlri) in
      let front = to_be_bytes w16 (length p.withdrawn) in
      subst (MessageRead ctx MessagePart.WithdrawnLength) (sym is.octets)
      (message-behind ctx MessagePart.WithdrawnLength front p.withdrawn rest FieldKind.WithdrawnLength 2 SectionPart.Withdrawn (two_of (front ++ (p.withdrawn ++ rest))) MessagePart.AttributesLength
      refl refl (omega arith) (sym (from_be_bytes-to_be_bytes_2 (length p.withdrawn) is.withdrawn_fits)) refl withdrawn
      (message-behind ctx MessagePart.AttributesLength size p.attributes p.nlri FieldKind.AttributesLength 2 SectionPart.AttributeFlags (two_of rest) MessagePart.Nlri
      refl refl (omega arith) (sym (from_be_bytes-to_be_bytes_2 (length p.attributes) is.attributes_fit)) refl attributes nlri))

  pub update-read : (body : List ℕ) (u : Update) → AreOctets body → IsTaken ctx body u [] → MessageRead ctx MessagePart.WithdrawnLength body
  update-read body u octets taken =
      let p = taken.parts in
      let marks = marks_of ctx p in
      let is = parts-body body p octets taken.found in
      let resets = or-parts (first_reset marks) _ taken.no_reset in
      let runs = or-parts (reset_of_run p.withdrawn) (reset_of_run p.nlri) resets.1 in
      let later : AreOctets (p.withdrawn ++ (to_be_bytes w16 (length p.attributes) ++ (p.attributes ++ p.nlri))) =
      AreOctets-back (to_be_bytes w16 (length p.withdrawn)) _ (subst AreOctets is.octets octets) in
      let behind : AreOctets (p.attributes ++ p.nlri) = AreOctets-back (to_be_bytes w16 (length p.attributes)) _ (AreOctets-back p.withdrawn _ later) in
      body-read p body is (withdrawn-read ctx _ p.withdrawn (run-row p.withdrawn runs.0))
      (field-read (has_nlri p) p.attributes (AreOctets-front p.attributes p.nlri behind) (all-kept p marks taken.no_reset taken.notes_are))
      (nlri-read _ p.nlri (run-row p.nlri runs.1))

  pub open-read : (o : Open) (body : List ℕ) → IsOpen o body → MessageRead ctx MessagePart.Version body
  open-read o (v ∷ a ∷ b ∷ c ∷ d ∷ e ∷ f ∷ g ∷ h ∷ n ∷ ps) is =
      message-front ctx MessagePart.Version (v ∷ []) (a ∷ b ∷ c ∷ d ∷ e ∷ f ∷ g ∷ h ∷ n ∷ ps) FieldKind.Version 1 MessagePart.MyAs refl refl (omega arith) refl
      (message-front ctx MessagePart.MyAs (a ∷ b ∷ []) (c ∷ d ∷ e ∷ f ∷ g ∷ h ∷ n ∷ ps) FieldKind.MyAs 2 MessagePart.HoldTime refl refl (omega arith) refl
      (message-front ctx MessagePart.HoldTime (c ∷ d ∷ []) (e ∷ f ∷ g ∷ h ∷ n ∷ ps) FieldKind.HoldTime 2 MessagePart.Identifier refl refl (omega arith) refl
      (message-front ctx MessagePart.Identifier (e ∷ f ∷ g ∷ h ∷ []) (n ∷ ps) FieldKind.Identifier 4 MessagePart.ParametersLength refl refl (omega arith) refl
      (subst (λ (x : List ℕ). MessageRead ctx MessagePart.ParametersLength (n ∷ x)) (append-nil ps)
      (message-behind ctx MessagePart.ParametersLength (n ∷ []) ps [] FieldKind.ParametersLength 1 SectionPart.ParameterType n (MessagePart.All FieldKind.Unread) refl refl (omega arith)
      (sym is.counted) refl (parameters-read ctx is.parameters ps is.row) (message-none ctx (MessagePart.All FieldKind.Unread)))))))
  open-read o [] is = absurd (omega (arith, is.fixed))
  open-read o (v ∷ []) is = absurd (omega (arith, is.fixed))
  open-read o (v ∷ a ∷ []) is = absurd (omega (arith, is.fixed))
  open-read o (v ∷ a ∷ b ∷ []) is = absurd (omega (arith, is.fixed))
  open-read o (v ∷ a ∷ b ∷ c ∷ []) is = absurd (omega (arith, is.fixed))
  open-read o (v ∷ a ∷ b ∷ c ∷ d ∷ []) is = absurd (omega (arith, is.fixed))
  open-read o (v ∷ a ∷ b ∷ c ∷ d ∷ e ∷ []) is = absurd (omega (arith, is.fixed))
  open-read o (v ∷ a ∷ b ∷ c ∷ d ∷ e ∷ f ∷ []) is = absurd (omega (arith, is.fixed))
  open-read o (v ∷ a ∷ b ∷ c ∷ d ∷ e ∷ f ∷ g ∷ []) is = absurd (omega (arith, is.fixed))
  open-read o (v ∷ a ∷ b ∷ c ∷ d ∷ e ∷ f ∷ g ∷ h ∷ []) is = absurd (omega (arith, is.fixed))

  data-read : (b : List ℕ) → MessageRead ctx (MessagePart.All FieldKind.Data) b
  data-read [] = message-none ctx (MessagePart.All FieldKind.Data)
  data-read (x ∷ b) =
      subst (MessageRead ctx (MessagePart.All FieldKind.Data)) (append-nil (x ∷ b))
      (message-front ctx (MessagePart.All FieldKind.Data) (x ∷ b) [] FieldKind.Data (length (x ∷ b)) (MessagePart.All FieldKind.Unread)
      (ap (λ (c : List ℕ). alone FieldKind.Data (length c) (MessagePart.All FieldKind.Unread)) (append-nil (x ∷ b))) refl (omega arith) refl (message-none ctx (MessagePart.All FieldKind.Unread)))

  pub notification-read : (body : List ℕ) → 2 ≤ length body → MessageRead ctx MessagePart.ErrorCode body
  notification-read [] long = absurd (omega arith)
  notification-read (c ∷ []) long = absurd (omega arith)
  notification-read (c ∷ s ∷ b) long =
      message-front ctx MessagePart.ErrorCode (c ∷ []) (s ∷ b) FieldKind.ErrorCode 1 MessagePart.ErrorSubcode refl refl (omega arith) refl
      (message-front ctx MessagePart.ErrorSubcode (s ∷ []) b FieldKind.ErrorSubcode 1 (MessagePart.All FieldKind.Data) refl refl (omega arith) refl (data-read b))

  -- ---- the header

  pub header-read : (k : Kind) (n : ℕ) (body : List ℕ) → MessageRead ctx (body_part (Some k)) body → MessageRead ctx MessagePart.Marker (header k n ++ body)
  header-read k n body later =
      message-front ctx MessagePart.Marker marker (to_be_bytes w16 n ++ (code_of k ∷ body)) FieldKind.Marker 16 MessagePart.Length refl refl (omega arith) refl
      (message-front ctx MessagePart.Length (to_be_bytes w16 n) (code_of k ∷ body) FieldKind.MessageLength 2 MessagePart.Kind refl refl (omega arith) refl
      (message-front ctx MessagePart.Kind (code_of k ∷ []) body FieldKind.MessageType 1 (body_part (Some k)) (ap (λ (o : Option Kind). alone FieldKind.MessageType 1 (body_part o)) (kind_of-code_of k))
      refl (omega arith) refl later))
