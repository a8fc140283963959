-- The fields of a ROUTE-REFRESH.
use Rattle.bgp_fields.proofs.Prelude.{◌≡◌, ℕ, ◌+◌, ◌-◌, ◌<◌, ◌≤◌, List, [], ◌∷◌, ◌++◌, length, drop, None, refl, ap, ap₂, ◌∙◌, arith, drop-drop, length-drop}
use Rattle.bgp_fields.proofs.Prelude.{drop_all, le-ltb, Context, Field, FieldKind, Unread, MessagePart, SectionPart, section_fields, message_fields, refresh_fields}
use Rattle.bgp_fields.proofs.Prelude.{alone, nothing_in_section, section_plan, message_plan, value_fields, lone_field, refresh_rest, refresh_row}
use Rattle.bgp_fields.proofs.Readable.{whole-told}
use Rattle.bgp_fields.proofs.Walks.{walk-none}

module _ (ctx : Context) where
  -- a field without a section, and those after it
  one-field : (part : MessagePart) (at : ℕ) (b : List ℕ) (kind : FieldKind) (n : ℕ) (next : MessagePart) (end : ℕ) (rest : List ℕ)
      → message_plan part b ≡ alone kind n next → 0 < n → n ≤ length b → at + n ≡ end → drop n b ≡ rest
      → message_fields ctx part at None b ≡ lone_field kind at n ∷ message_fields ctx next end None rest
  one-field part at b kind n next end rest is some room end_is rest_is =
      whole-told SectionPart MessagePart (MessagePart.All Unread) message_plan (section_fields ctx) part at None b (alone kind n next) is some (omega (arith, room))
      ∙ ap (λ (fields : List Field). lone_field kind at n ∷ (fields ++ message_fields ctx next (at + n + 0) None (drop (n + 0) b)))
      (walk-none _ SectionPart (SectionPart.All Unread) (section_plan ctx) (value_fields ctx) nothing_in_section (at + n) None)
      ∙ ap₂ (λ (m : ℕ) (c : List ℕ). lone_field kind at n ∷ message_fields ctx next m None c)
      (omega (arith, end_is)) (ap (λ (k : ℕ). drop k b) (omega arith) ∙ rest_is)

  -- the octets after the SAFI
  rest-field : (b : List ℕ) → message_fields ctx (MessagePart.All Unread) 23 None b ≡ refresh_rest b
  rest-field [] = walk-none SectionPart MessagePart (MessagePart.All Unread) message_plan (section_fields ctx) (MessagePart.All Unread) 23 None
  rest-field (x ∷ b) =
      one-field (MessagePart.All Unread) 23 (x ∷ b) Unread (length (x ∷ b)) (MessagePart.All Unread) (23 + length (x ∷ b)) [] refl (omega arith) (omega arith) refl
      (drop_all (length (x ∷ b)) (x ∷ b) (omega arith))
      ∙ ap (λ (fields : List Field). lone_field Unread 23 (length (x ∷ b)) ∷ fields)
      (walk-none SectionPart MessagePart (MessagePart.All Unread) message_plan (section_fields ctx) (MessagePart.All Unread) (23 + length (x ∷ b)) None)

  behind : (octets : List ℕ) (n m : ℕ) → drop n (drop m octets) ≡ drop (m + n) octets
  behind octets n m = drop-drop n m octets

  pub refresh-row : (octets : List ℕ) → 23 ≤ length octets → refresh_fields ctx octets ≡ refresh_row ++ refresh_rest (drop 23 octets)
  refresh-row octets long =
      let left : (n : ℕ) → length (drop n octets) ≡ length octets - n = λ n. length-drop n octets in
      one-field MessagePart.RefreshMarker 0 octets FieldKind.Marker 16 MessagePart.RefreshLength 16 (drop 16 octets) refl (omega arith) (omega (arith, long)) refl refl
      ∙ ap (λ (fields : List Field). lone_field FieldKind.Marker 0 16 ∷ fields)
      (one-field MessagePart.RefreshLength 16 (drop 16 octets) FieldKind.MessageLength 2 MessagePart.RefreshType 18 (drop 18 octets)
      refl (omega arith) (omega (arith, long, left 16)) refl (behind octets 2 16)
      ∙ ap (λ (fields : List Field). lone_field FieldKind.MessageLength 16 2 ∷ fields)
      (one-field MessagePart.RefreshType 18 (drop 18 octets) FieldKind.MessageType 1 MessagePart.RefreshAfi 19 (drop 19 octets)
      refl (omega arith) (omega (arith, long, left 18)) refl (behind octets 1 18)
      ∙ ap (λ (fields : List Field). lone_field FieldKind.MessageType 18 1 ∷ fields)
      (one-field MessagePart.RefreshAfi 19 (drop 19 octets) FieldKind.Afi 2 MessagePart.RefreshSubtype 21 (drop 21 octets)
      (rw (le-ltb (length (drop 19 octets)) 4 (omega (arith, long, left 19))) refl) (omega arith) (omega (arith, long, left 19)) refl (behind octets 2 19)
      ∙ ap (λ (fields : List Field). lone_field FieldKind.Afi 19 2 ∷ fields)
      (one-field MessagePart.RefreshSubtype 21 (drop 21 octets) FieldKind.Subtype 1 MessagePart.RefreshSafi 22 (drop 22 octets)
      refl (omega arith) (omega (arith, long, left 21)) refl (behind octets 1 21)
      ∙ ap (λ (fields : List Field). lone_field FieldKind.Subtype 21 1 ∷ fields)
      (one-field MessagePart.RefreshSafi 22 (drop 22 octets) FieldKind.Safi 1 (MessagePart.All Unread) 23 (drop 23 octets)
      refl (omega arith) (omega (arith, long, left 22)) refl (behind octets 1 22)
      ∙ ap (λ (fields : List Field). lone_field FieldKind.Safi 22 1 ∷ fields) (rest-field (drop 23 octets)))))))
