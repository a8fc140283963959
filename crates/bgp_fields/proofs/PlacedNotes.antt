-- Each note on an UPDATE has a span, unless it says that an attribute is missing.
use Rattle.bgp_fields.proofs.Prelude.{◌≡◌, ℕ, ◌+◌, ◌-◌, ◌<◌, ◌≤◌, Bool, true, false, List, [], ◌∷◌, ◌++◌, length, Option, Some, refl, sym, ap, subst, ◌∙◌}
use Rattle.bgp_fields.proofs.Prelude.{arith, flat_map, le-leb, flat_map-cons, true≢false, lt-ltb, ORIGIN, AS_PATH, NEXT_HOP, AreOctets, AreOctets-back, Kind}
use Rattle.bgp_fields.proofs.Prelude.{IsFrame, header, length-IsFrame, Context, reading_of, Judged, Why, Note, Routes, Update, Verdict, Mark, marks_of}
use Rattle.bgp_fields.proofs.Prelude.{mark_notes, missing_note, missing_notes, missing_of, notes_of, Parts, attributes_at, parts_of, verdict_of, has_nlri}
use Rattle.bgp_fields.proofs.Prelude.{parts-body, length-body, Message, Outcome, of_verdict, of_body, out_of, says_missing, note_place_in, note_place}
use Rattle.bgp_fields.proofs.Prelude.{HasPlace, ArePlaced, taken-of, withdrawn-of}
use Rattle.bgp_frame.specs.Frame as frame
use Rattle.bgp_update.specs.declared.missing.Missing.{Missing}
use Rattle.bgp_fields.proofs.Placed.{AllIn, field-in, attribute-placed}
use Rattle.bgp_fields.proofs.Routed.{open-not, open-gone}
use Rattle.bgp_frame.specs.Kind.{plain}
use Rattle.bgp_frame.specs.steps.AreTypes.{plain-are}

abbrev Placed : ℕ → List ℕ → Note → Type 0
Placed n body note = says_missing note.why ≡ false → HasPlace n (note_place body note)

all-append : (n : ℕ) (body : List ℕ) (xs ys : List Note) → ArePlaced n body xs → ArePlaced n body ys → ArePlaced n body (xs ++ ys)
all-append n body [] ys a b = b
all-append n body (x ∷ xs) ys a b = (a.0, all-append n body xs ys a.1 b)

module _ (p : Parts) (n : ℕ) (body : List ℕ) (found : parts_of body ≡ Some p) (le : 23 + (length p.withdrawn + length p.attributes) ≤ n) where
  one-note : (at type : ℕ) (w : Why) → at < length p.attributes → Placed n body (record { at = attributes_at p + at; kind = type; why = w })
  one-note at type w inside said =
      let note : Note = record { at = attributes_at p + at; kind = type; why = w } in
      let back : attributes_at p + at - attributes_at p ≡ at = omega arith in
      let there : attributes_at p + at < attributes_at p + length p.attributes = omega (arith, inside) in
      let here : attributes_at p ≤ attributes_at p + at = omega arith in
      subst (λ (o : Option Parts). HasPlace n (note_place_in note o)) (sym found)
      (rw (said, le-leb (attributes_at p) (attributes_at p + at) here, lt-ltb (attributes_at p + at) (attributes_at p + length p.attributes) there, back)
      (attribute-placed p n at le inside))

  mark-by : (at type : ℕ) (j : Judged) → at < length p.attributes → ArePlaced n body (mark_notes (attributes_at p) (record { at = at; kind = type; judged = j }))
  mark-by at type (Judged.Keep a) inside = tt
  mark-by at type (Judged.Reset r) inside = tt
  mark-by at type (Judged.Discard w) inside = (one-note at type w inside, tt)
  mark-by at type (Judged.Withdraw w) inside = (one-note at type w inside, tt)

  marks-placed : (ms : List Mark) → AllIn (length p.attributes) ms → ArePlaced n body (flat_map (mark_notes (attributes_at p)) ms)
  marks-placed [] all = tt
  marks-placed (m ∷ ms) all =
      subst (ArePlaced n body) (sym (flat_map-cons (mark_notes (attributes_at p)) m ms))
      (all-append n body (mark_notes (attributes_at p) m) (flat_map (mark_notes (attributes_at p)) ms) (mark-by m.at m.kind m.judged all.0) (marks-placed ms all.1))

  one-missing : (b : Bool) (type : ℕ) → ArePlaced n body (missing_note b type)
  one-missing true type = ((λ said. absurd (true≢false said)), tt)
  one-missing false type = tt

  missing-placed : (m : Missing) → ArePlaced n body (missing_notes m)
  missing-placed m =
      all-append n body (missing_note m.origin ORIGIN) (missing_note m.as_path AS_PATH ++ missing_note m.next_hop NEXT_HOP) (one-missing m.origin ORIGIN)
      (all-append n body (missing_note m.as_path AS_PATH) (missing_note m.next_hop NEXT_HOP) (one-missing m.as_path AS_PATH) (one-missing m.next_hop NEXT_HOP))

  notes-placed : (ctx : Context) → ArePlaced n body (notes_of p (marks_of ctx p))
  notes-placed ctx =
      all-append n body (flat_map (mark_notes (attributes_at p)) (marks_of ctx p)) (missing_notes (missing_of p (marks_of ctx p)))
      (marks-placed (marks_of ctx p) (field-in ctx (has_nlri p) p.attributes)) (missing-placed (missing_of p (marks_of ctx p)))

module _ (ctx : Context) where
  parts-placed : (body : List ℕ) (p : Parts) → AreOctets body → parts_of body ≡ Some p → ArePlaced (19 + length body) body (notes_of p (marks_of ctx p))
  parts-placed body p octets found =
      let long = ap length (parts-body body p octets found).octets ∙ length-body p.withdrawn p.attributes p.nlri in
      notes-placed p (19 + length body) body found (omega (arith, long)) ctx

  same-notes : (m o : Message) (ns ms : List Note) → (let one : Outcome = Outcome.Took m ns in one ≡ Outcome.Took o ms) → ns ≡ ms
  same-notes m o ns ms e = cc

  gone-notes : (r s : Routes) (ns ms : List Note) → (let one : Outcome = Outcome.Withdraw r ns in one ≡ Outcome.Withdraw s ms) → ns ≡ ms
  gone-notes r s ns ms e = cc

  taken-by : (body : List ℕ) (u : Update) (notes : List Note) → AreOctets body → (v : Verdict) → verdict_of ctx body ≡ v → of_verdict v ≡ Outcome.Took (Message.Update u) notes
      → ArePlaced (19 + length body) body notes
  taken-by body u notes octets (Verdict.Take w ns) is e =
      let taken = taken-of ctx body w ns is in
      subst (ArePlaced (19 + length body) body) (taken.notes_are ∙ same-notes (Message.Update w) (Message.Update u) ns notes e) (parts-placed body taken.parts octets taken.found)
  taken-by body u notes octets (Verdict.Withdraw routes ns) is e = absurd cc
  taken-by body u notes octets (Verdict.Reset n) is e = absurd cc

  taken-kind : (k : Kind) (body : List ℕ) (u : Update) (notes : List Note) → AreOctets body → of_body ctx k body ≡ Outcome.Took (Message.Update u) notes
      → ArePlaced (19 + length body) body notes
  taken-kind Kind.Open body u notes octets e = absurd (open-not ctx u notes (reading_of body) e)
  taken-kind Kind.Update body u notes octets e = taken-by body u notes octets (verdict_of ctx body) refl e
  taken-kind Kind.Notification body u notes octets e = absurd cc
  taken-kind Kind.Keepalive body u notes octets e = absurd cc

  gone-by : (body : List ℕ) (routes : Routes) (notes : List Note) → AreOctets body → (v : Verdict) → verdict_of ctx body ≡ v → of_verdict v ≡ Outcome.Withdraw routes notes
      → ArePlaced (19 + length body) body notes
  gone-by body routes notes octets (Verdict.Withdraw r ns) is e =
      let gone = withdrawn-of ctx body r ns is in
      subst (ArePlaced (19 + length body) body) (gone.notes_are ∙ gone-notes r routes ns notes e) (parts-placed body gone.parts octets gone.found)
  gone-by body routes notes octets (Verdict.Take u ns) is e = absurd cc
  gone-by body routes notes octets (Verdict.Reset n) is e = absurd cc

  gone-kind : (k : Kind) (body : List ℕ) (routes : Routes) (notes : List Note) → AreOctets body → of_body ctx k body ≡ Outcome.Withdraw routes notes
      → ArePlaced (19 + length body) body notes
  gone-kind Kind.Open body routes notes octets e = absurd (open-gone ctx routes notes (reading_of body) e)
  gone-kind Kind.Update body routes notes octets e = gone-by body routes notes octets (verdict_of ctx body) refl e
  gone-kind Kind.Notification body routes notes octets e = absurd cc
  gone-kind Kind.Keepalive body routes notes octets e = absurd cc

pub taken-notes : (ctx : Context) (m : frame.Message) (octets : List ℕ) (u : Update) (notes : List Note) → AreOctets octets → IsFrame m octets
    → out_of ctx m ≡ Outcome.Took (Message.Update u) notes → ArePlaced (length octets) m.body notes
taken-notes ctx m octets u notes all is e =
    subst (λ (k : ℕ). ArePlaced k m.body notes) (sym (length-IsFrame plain plain-are m octets is))
    (taken-kind ctx m.kind m.body u notes (AreOctets-back (header m.kind (19 + length m.body)) m.body (subst AreOctets is.octets all)) e)

pub withdrawn-notes : (ctx : Context) (m : frame.Message) (octets : List ℕ) (routes : Routes) (notes : List Note) → AreOctets octets → IsFrame m octets
    → out_of ctx m ≡ Outcome.Withdraw routes notes → ArePlaced (length octets) m.body notes
withdrawn-notes ctx m octets routes notes all is e =
    subst (λ (k : ℕ). ArePlaced k m.body notes) (sym (length-IsFrame plain plain-are m octets is))
    (gone-kind ctx m.kind m.body routes notes (AreOctets-back (header m.kind (19 + length m.body)) m.body (subst AreOctets is.octets all)) e)
