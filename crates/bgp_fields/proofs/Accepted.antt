-- No field of a message that is accepted without a note is `Unread`.
use Rattle.bgp_fields.proofs.Prelude.{◌≡◌, ℕ, ◌+◌, ◌≤◌, List, [], length, Some, None, Result, Ok, Err, refl, sym, ap, subst, ◌∙◌, arith, nil_from_length}
use Rattle.bgp_fields.proofs.Prelude.{length-append, AreOctets, AreOctets-back, Kind, IsFrame, header, IsLength, Context, OpenFault, Version, Parameter}
use Rattle.bgp_fields.proofs.Prelude.{UnknownParameter, Memory, Open, reading_of, Hold, Identifier, reading-spells, Note, Verdict, verdict_of, Message}
use Rattle.bgp_fields.proofs.Prelude.{Outcome, of_reading, of_verdict, of_body, out_of, MessagePart, fields_of, AllRead, body_part, IsTaken, taken-of}
use Rattle.bgp_frame.specs.Frame as frame
use Rattle.bgp_fields.proofs.Readable.{MessageRead, message-none}
use Rattle.bgp_fields.proofs.ReadableMessages.{update-read, open-read, notification-read, header-read}

abbrev took : Message → List Note → Outcome
took said notes = Outcome.Took said notes

same-notes : (m n : Message) (ns ms : List Note) → took m ns ≡ took n ms → ns ≡ ms
same-notes m n ns ms e = cc

module _ (ctx : Context) (body : List ℕ) (said : Message) where
  open-by : 10 ≤ length body → (r : Result Open OpenFault) → reading_of body ≡ r → of_reading r ≡ took said [] → MessageRead ctx MessagePart.Version body
  open-by long (Ok o) is e = open-read ctx o body (reading-spells body long o is)
  open-by long (Err Version) is e = absurd cc
  open-by long (Err Parameter) is e = absurd cc
  open-by long (Err UnknownParameter) is e = absurd cc
  open-by long (Err Hold) is e = absurd cc
  open-by long (Err Identifier) is e = absurd cc
  open-by long (Err Memory) is e = absurd cc

  update-by : AreOctets body → (v : Verdict) → verdict_of ctx body ≡ v → of_verdict v ≡ took said [] → MessageRead ctx MessagePart.WithdrawnLength body
  update-by octets (Verdict.Take u notes) is e =
      let none : notes ≡ [] = same-notes (Message.Update u) said notes [] e in
      update-read ctx body u octets (subst (λ (ns : List Note). IsTaken ctx body u ns) none (taken-of ctx body u notes is))
  update-by octets (Verdict.Withdraw routes notes) is e = absurd cc
  update-by octets (Verdict.Reset n) is e = absurd cc

  body-by : (k : Kind) → IsLength k (19 + length body) → AreOctets body → of_body ctx k body ≡ took said [] → MessageRead ctx (body_part (Some k)) body
  body-by Kind.Open allowed octets e = open-by (omega (arith, allowed.least)) (reading_of body) refl e
  body-by Kind.Update allowed octets e = update-by octets (verdict_of ctx body) refl e
  body-by Kind.Notification allowed octets e = notification-read ctx body (omega (arith, allowed.least))
  body-by Kind.Keepalive allowed octets e =
      subst (MessageRead ctx (body_part (Some Kind.Keepalive))) (sym (nil_from_length body (omega (arith, allowed.most)))) (message-none ctx (body_part (Some Kind.Keepalive)))

pub accepted-read : (ctx : Context) (m : frame.Message) (octets : List ℕ) (said : Message) → AreOctets octets → IsFrame m octets → out_of ctx m ≡ Outcome.Took said []
    → AllRead (fields_of ctx octets)
accepted-read ctx m octets said all is e =
    let head = header m.kind (19 + length m.body) in
    let body : AreOctets m.body = AreOctets-back head m.body (subst AreOctets is.octets all) in
    let long : length octets ≡ 19 + length m.body = ap length is.octets ∙ length-append head m.body in
    subst (λ (b : List ℕ). AllRead (fields_of ctx b)) (sym is.octets)
    (header-read ctx m.kind (19 + length m.body) m.body
    (body-by ctx m.body said m.kind (subst (IsLength m.kind) long is.allowed) body e) 0 None)
