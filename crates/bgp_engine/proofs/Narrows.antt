-- An UPDATE that is accepted with 4-octet AS numbers can be sent to a speaker with 2-octet ones.
use Rattle.bgp_engine.proofs.Prelude.{◌≡◌, ◌≤◌, ◌+◌, ◌∙◌, ℕ, true, length, arith, List, Option, Some, None, Result, Ok, Err, refl, sym, ap, subst, le-ltb, AreOctets}
use Rattle.bgp_engine.proofs.Prelude.{IsLength, Context, Open, open_notification, reading_of, CanBeTold, written_body, verdict_of, of_open_fault, of_reading}
use Rattle.bgp_engine.proofs.Prelude.{of_verdict, of_body}
use Rattle.bgp_engine.specs.Below.{out_of}
use Rattle.bgp_engine.specs.Narrow.{narrowed_body, narrowed_by, narrowed_with}
use Rattle.bgp_frame.specs.declared.kind.Kind.{Kind}
use Rattle.bgp_frame.specs.declared.kind.Kind.TheVariants as kinds
use Rattle.bgp_frame.specs.declared.notification.Notification.{Notification}
use Rattle.bgp_open.specs.declared.fault.OpenFault.{OpenFault}
use Rattle.bgp_update.specs.declared.note.Note.{Note}
use Rattle.bgp_update.specs.declared.update.Update.{Update}
use Rattle.bgp_update.specs.declared.verdict.Verdict.{Verdict}
use Rattle.bgp_update.proofs.Taken.{taken-written}
use Rattle.bgp_update.specs.Prelude.{parts_of}
use Rattle.bgp_paths.specs.declared.families.PathFamilies.{PathFamilies}
use Rattle.bgp_paths.specs.Prelude.{FieldNumbers, as_received, fields_in, outcome_with, plain_body}
use Rattle.bgp_msg.specs.declared.message.Message.{Message}
use Rattle.bgp_msg.specs.declared.outcome.Outcome.{Outcome}

same_update : (x u : Update) (ns notes : List Note) → (let taken : Outcome = Outcome.Took (Message.Update x) ns in taken ≡ Outcome.Took (Message.Update u) notes) → x ≡ u
same_update x u ns notes is = cc

module _ (ctx : Context) (wide : ctx.as4 ≡ true) (u : Update) (notes : List Note) where
  abbrev taken : Outcome
  taken = Outcome.Took (Message.Update u) notes

  fault_told : (n : Option Notification) → of_open_fault n ≡ taken → CanBeTold ctx u
  fault_told (Some n) is = absurd cc
  fault_told None is = absurd cc

  open_told : (r : Result Open OpenFault) → of_reading r ≡ taken → CanBeTold ctx u
  open_told (Ok o) is = absurd cc
  open_told (Err f) is = fault_told (open_notification f) is

  update_told : (body : List ℕ) → AreOctets body → length body ≤ 4077 → (v : Verdict) → verdict_of ctx body ≡ v → of_verdict v ≡ taken → CanBeTold ctx u
  update_told body octets short (Verdict.Take x ns) e is =
      let can = taken-written ctx body x ns octets e in
      subst (CanBeTold ctx) (same_update x u ns notes is) (record {
        wide = wide;
        valid = can.valid;
        short = le-ltb 4077 (length (written_body ctx x)) (omega (arith, can.no_longer, short));
      })
  update_told body octets short (Verdict.Withdraw routes ns) e is = absurd cc
  update_told body octets short (Verdict.Reset n) e is = absurd cc

  pub taken_told : (k : Kind) (body : List ℕ) → AreOctets body → IsLength k (19 + length body) → of_body ctx k body ≡ taken → CanBeTold ctx u
  taken_told Kind.Open body octets allowed is = open_told (reading_of body) is
  taken_told Kind.Update body octets allowed is = update_told body octets (omega (arith, allowed.most)) (verdict_of ctx body) refl is
  taken_told Kind.Notification body octets allowed is = absurd cc
  taken_told Kind.Keepalive body octets allowed is = absurd cc

-- ---- an UPDATE whose routes have path identifiers

-- what is accepted as received is accepted without path identifiers
pub received_taken : (body : List ℕ) (o : Outcome) (m : Message) (notes : List Note) → as_received body o ≡ Outcome.Took m notes → o ≡ Outcome.Took m notes
received_taken body (Outcome.Took said ns) m notes e = e
received_taken body (Outcome.Withdraw routes ns) m notes e = absurd cc
received_taken body (Outcome.Reset n) m notes e = absurd cc

module _ (f : PathFamilies) (ctx : Context) (body plain : List ℕ) (is : plain ≡ plain_body f body) (o : Outcome) (comes : o ≡ as_received body (out_of ctx (record { kind = kinds.Update; body = plain }))) where
  outcome_same : o ≡ outcome_with ctx f body
  outcome_same = comes ∙ ap (λ (b : List ℕ). as_received body (out_of ctx (record { kind = kinds.Update; body = b }))) is

  -- the narrowed UPDATE with the path identifiers of the message
  pub narrowed_same : (ns : FieldNumbers) (u : Update) (notes : List Note) → ns ≡ fields_in f (parts_of body) → o ≡ Outcome.Took (Message.Update u) notes → narrowed_with f ns ctx u ≡ narrowed_body f ctx body
  narrowed_same ns u notes numbers taken =
      ap (λ (n : FieldNumbers). narrowed_with f n ctx u) numbers ∙ ap (narrowed_by f (fields_in f (parts_of body)) ctx) (sym taken ∙ outcome_same)

  -- none of another outcome
  pub narrowed_none : narrowed_by f (fields_in f (parts_of body)) ctx o ≡ None → narrowed_body f ctx body ≡ None
  narrowed_none none = ap (narrowed_by f (fields_in f (parts_of body)) ctx) (sym outcome_same) ∙ none
