-- An accepted message can be written, and is no longer than what was read.
use Rattle.bgp_wire.proofs.Std.{◌≡◌, ℕ, ◌+◌, ◌≤◌, Bool, cond, List, [], length, Option, Some, None, Result, Ok, Err, refl, sym, ap, subst, arith}
use Rattle.std.proofs.lemmas.List.{length-drop}
use Rattle.bgp_wire.specs.Prelude.{AreOctets}
use Rattle.bgp_wire.proofs.OctetLemmas.{AreOctets-back}
use Rattle.bgp_frame.specs.declared.kind.Kind.{Kind}
use Rattle.bgp_frame.specs.Prelude.{IsFrame, octets_of, header, IsLength}
use Rattle.bgp_frame.specs.declared.kind.Kind.TheVariants as kind
use Rattle.bgp_frame.specs.declared.notification.Notification.{Notification}
use Rattle.bgp_frame.specs.Frame as frame
use Rattle.bgp_frame.proofs.FrameLemmas.{length-octets_of, length-IsFrame}
use Rattle.bgp_open.specs.declared.context.Context.{Context}
use Rattle.bgp_open.specs.declared.fault.OpenFault.{OpenFault}
use Rattle.bgp_open.specs.declared.message.Open.{Open}
use Rattle.bgp_open.specs.Prelude.{open_notification, reading_of}
use Rattle.bgp_open.proofs.Readings.{reading-spells}
use Rattle.bgp_update.specs.declared.invalid.Invalid.{Invalid}
use Rattle.bgp_update.specs.declared.note.Note.{Note}
use Rattle.bgp_update.specs.declared.verdict.Verdict.{Verdict}
use Rattle.bgp_update.specs.Prelude.{verdict_of}
use Rattle.bgp_update.specs.declared.invalid.Invalid.TheVariants as invalid
use Rattle.bgp_update.specs.declared.verdict.Verdict.TheVariants as verdict
use Rattle.bgp_update.proofs.Taken.{taken-written}
use Rattle.bgp_msg.specs.declared.message.Message.{Message}
use Rattle.bgp_msg.specs.declared.outcome.Outcome.{Outcome}
use Rattle.bgp_msg.specs.Prelude.{of_open_fault, of_reading, of_verdict, notification_in, of_body, out_of, written, invalid_of, body_of, CanBeWritten}
use Rattle.bgp_msg.specs.declared.message.Message.TheVariants as message
use Rattle.bgp_msg.specs.declared.outcome.Outcome.TheVariants as outcome
use Rattle.bgp_msg.proofs.ReadOpens.{read-good, read-short}
use Rattle.bgp_frame.specs.Kind.{plain}
use Rattle.bgp_frame.specs.steps.AreTypes.{plain-are}

abbrev taken : Message → List Note → Outcome
taken m notes = outcome.Took m notes

same : (m : Message) (notes : List Note) (n : Message) (others : List Note) → taken m notes ≡ taken n others → m ≡ n
same m notes n others e = cc

not_reset : (r : Notification) (n : Message) (others : List Note) → outcome.Reset r ≡ taken n others → ⊥
not_reset r n others e = absurd cc

module _ (ctx : Context) (b body : List ℕ) (long : length b ≡ 19 + length body) where
  -- from a body that is no longer
  can_be : (m : Message) → invalid_of ctx m ≡ None → length (body_of ctx m) ≤ length body → CanBeWritten ctx m b
  can_be m valid le = record { valid = valid; no_longer = omega (arith, long, length-octets_of plain plain-are (written ctx m)) }

  open_by : (said : Message) (notes : List Note) → AreOctets body → 10 ≤ length body → (r : Result Open OpenFault) → reading_of body ≡ r → of_reading r ≡ taken said notes → CanBeWritten ctx said b
  open_by said notes octets ten (Ok o) e is =
      let spelled = reading-spells body ten o e in
      subst (λ (m : Message). CanBeWritten ctx m b) (same (message.Open o) [] said notes is)
      (can_be (message.Open o) (ap (λ (t : Bool). cond t (some invalid.BadOpen) None) (read-good o body octets spelled)) (read-short o body octets spelled))
    where
      some : Invalid → Option Invalid
      some why = Some why
  open_by said notes octets ten (Err f) e is = fault_by (open_notification f) is
    where
      fault_by : (n : Option Notification) → of_open_fault n ≡ taken said notes → CanBeWritten ctx said b
      fault_by (Some n) eq = absurd (not_reset n said notes eq)
      fault_by None eq = absurd (not_reset _ said notes eq)

  update_by : (said : Message) (notes : List Note) → AreOctets body → (v : Verdict) → verdict_of ctx body ≡ v → of_verdict v ≡ taken said notes → CanBeWritten ctx said b
  update_by said notes octets (verdict.Take u ns) e is =
      let written = taken-written ctx body u ns octets e in
      subst (λ (m : Message). CanBeWritten ctx m b) (same (message.Update u) ns said notes is) (can_be (message.Update u) written.valid written.no_longer)
  update_by said notes octets (verdict.Withdraw routes ns) e is = absurd cc
  update_by said notes octets (verdict.Reset n) e is = absurd (not_reset n said notes is)

  body_by : (k : Kind) → IsLength k (length b) → AreOctets body → (said : Message) (notes : List Note) → of_body ctx k body ≡ taken said notes → CanBeWritten ctx said b
  body_by kind.Open allowed octets said notes is = open_by said notes octets (omega (arith, long, allowed.least)) (reading_of body) refl is
  body_by kind.Update allowed octets said notes is = update_by said notes octets (verdict_of ctx body) refl is
  body_by kind.Notification allowed octets said notes is =
      subst (λ (m : Message). CanBeWritten ctx m b) (same (message.Notification (notification_in body)) [] said notes is)
      (can_be (message.Notification (notification_in body)) refl (omega (arith, long, allowed.least, length-drop 2 body)))
  body_by kind.Keepalive allowed octets said notes is =
      subst (λ (m : Message). CanBeWritten ctx m b) (same message.Keepalive [] said notes is) (can_be message.Keepalive refl (omega arith))

pub taken-can : (ctx : Context) (m : frame.Message) (b : List ℕ) (said : Message) (notes : List Note) → AreOctets b → IsFrame m b → out_of ctx m ≡ outcome.Took said notes → CanBeWritten ctx said b
taken-can ctx m b said notes octets f is =
    body_by ctx b m.body (length-IsFrame plain plain-are m b f) m.kind f.allowed (AreOctets-back (header m.kind (19 + length m.body)) m.body (subst AreOctets f.octets octets)) said notes is

-- the octets of the message aren't needed
pub taken-body : (ctx : Context) (m : frame.Message) (said : Message) (notes : List Note) → AreOctets m.body → IsLength m.kind (19 + length m.body) → out_of ctx m ≡ outcome.Took said notes
    → CanBeWritten ctx said (octets_of m)
taken-body ctx m said notes octets allowed is =
    body_by ctx (octets_of m) m.body (length-octets_of plain plain-are m) m.kind (subst (IsLength m.kind) (sym (length-octets_of plain plain-are m)) allowed) octets said notes is
