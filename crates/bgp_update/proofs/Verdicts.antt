-- What a verdict that isn't a reset says of a body: its parts, and what is accepted or withdrawn of them.
use Rattle.bgp_wire.proofs.Std.{◌≡◌, ℕ, Bool, true, false, cond, List, length, Option, Some, None, refl, subst, w16, to_be_bytes}
use Rattle.bgp_wire.specs.Prelude.{AreOctets}
use Rattle.bgp_wire.proofs.OctetLemmas.{AreOctets-front, AreOctets-back}
use Rattle.bgp_frame.specs.declared.notification.Notification.{Notification}
use Rattle.bgp_open.specs.declared.context.Context.{Context}
use Rattle.bgp_update.specs.declared.note.Note.{Note}
use Rattle.bgp_update.specs.declared.routes.Routes.{Routes}
use Rattle.bgp_update.specs.declared.update.Update.{Update}
use Rattle.bgp_update.specs.declared.verdict.Verdict.{Verdict}
use Rattle.bgp_update.specs.Prelude.{Mark, malformed, marks_of, is_reachable, notes_of, routes_of, Parts, IsBody, parts_of, update_of, reset_of, is_withdrawn, unless_reset, of_parts, verdict_of}
use Rattle.bgp_update.specs.declared.verdict.Verdict.TheVariants as verdict
use Rattle.bgp_update.proofs.Bodies.{parts-body}

abbrev take : Update → List Note → Verdict
take u notes = verdict.Take u notes

abbrev withdraw : Routes → List Note → Verdict
withdraw routes notes = verdict.Withdraw routes notes

take-same : (u v : Update) (ns ms : List Note) → take u ns ≡ take v ms → (u ≡ v) × (ns ≡ ms)
take-same u v ns ms e = (cc, cc)

withdraw-same : (r s : Routes) (ns ms : List Note) → withdraw r ns ≡ withdraw s ms → (r ≡ s) × (ns ≡ ms)
withdraw-same r s ns ms e = (cc, cc)

-- the parts of a body have octets
pub record HasParts (body : List ℕ) (p : Parts) : Type 0 where
  pub is_body : IsBody p body
  pub withdrawn : AreOctets p.withdrawn
  pub attributes : AreOctets p.attributes
  pub nlri : AreOctets p.nlri

pub has-parts : (body : List ℕ) (p : Parts) → AreOctets body → parts_of body ≡ Some p → HasParts body p
has-parts body p octets found =
    let s = parts-body body p octets found in
    let behind_w = AreOctets-back (to_be_bytes w16 (length p.withdrawn)) _ (subst AreOctets s.octets octets) in
    let behind_a = AreOctets-back (to_be_bytes w16 (length p.attributes)) _ (AreOctets-back p.withdrawn _ behind_w) in record {
      is_body = s;
      withdrawn = AreOctets-front p.withdrawn _ behind_w;
      attributes = AreOctets-front p.attributes p.nlri behind_a;
      nlri = AreOctets-back p.attributes p.nlri behind_a;
    }

pub record IsTaken (ctx : Context) (body : List ℕ) (u : Update) (notes : List Note) : Type 0 where
  pub parts : Parts
  pub found : parts_of body ≡ Some parts
  pub no_reset : reset_of parts (marks_of ctx parts) ≡ None
  pub goes_on : is_withdrawn parts (marks_of ctx parts) ≡ false
  pub update : update_of parts (marks_of ctx parts) ≡ u
  pub notes_are : notes_of parts (marks_of ctx parts) ≡ notes

pub record IsWithdrawn (ctx : Context) (body : List ℕ) (routes : Routes) (notes : List Note) : Type 0 where
  pub parts : Parts
  pub found : parts_of body ≡ Some parts
  pub no_reset : reset_of parts (marks_of ctx parts) ≡ None
  pub reachable : is_reachable parts (marks_of ctx parts) ≡ true
  pub routes_are : routes_of parts (marks_of ctx parts) ≡ routes
  pub notes_are : notes_of parts (marks_of ctx parts) ≡ notes

module _ (ctx : Context) (body : List ℕ) where
  -- the verdict on these parts, by its three tests
  abbrev decided : Parts → Option Notification → Bool → Bool → Verdict
  decided p o withdrawn reachable =
      let marks : List Mark = marks_of ctx p in
      let gone : Verdict = cond reachable (withdraw (routes_of p marks) (notes_of p marks)) (verdict.Reset malformed) in
      unless_reset o (cond withdrawn gone (take (update_of p marks) (notes_of p marks)))

  module _ (p : Parts) (found : parts_of body ≡ Some p) where
    taken-on : (u : Update) (notes : List Note) (o : Option Notification) (withdrawn reachable : Bool) → reset_of p (marks_of ctx p) ≡ o → is_withdrawn p (marks_of ctx p) ≡ withdrawn
        → decided p o withdrawn reachable ≡ take u notes → IsTaken ctx body u notes
    taken-on u notes (Some n) withdrawn reachable r w e = absurd cc
    taken-on u notes None true true r w e = absurd cc
    taken-on u notes None true false r w e = absurd cc
    taken-on u notes None false reachable r w e =
        let same = take-same _ u _ notes e in record { parts = p; found = found; no_reset = r; goes_on = w; update = same.0; notes_are = same.1 }

    withdrawn-on : (routes : Routes) (notes : List Note) (o : Option Notification) (withdrawn reachable : Bool) → reset_of p (marks_of ctx p) ≡ o → is_reachable p (marks_of ctx p) ≡ reachable
        → decided p o withdrawn reachable ≡ withdraw routes notes → IsWithdrawn ctx body routes notes
    withdrawn-on routes notes (Some n) withdrawn reachable r s e = absurd cc
    withdrawn-on routes notes None true true r s e =
        let same = withdraw-same _ routes _ notes e in record { parts = p; found = found; no_reset = r; reachable = s; routes_are = same.0; notes_are = same.1 }
    withdrawn-on routes notes None true false r s e = absurd cc
    withdrawn-on routes notes None false reachable r s e = absurd cc

  taken-by : (u : Update) (notes : List Note) (o : Option Parts) → parts_of body ≡ o → of_parts ctx o ≡ take u notes → IsTaken ctx body u notes
  taken-by u notes None found e = absurd cc
  taken-by u notes (Some p) found e = taken-on p found u notes (reset_of p (marks_of ctx p)) (is_withdrawn p (marks_of ctx p)) (is_reachable p (marks_of ctx p)) refl refl e

  pub taken-of : (u : Update) (notes : List Note) → verdict_of ctx body ≡ verdict.Take u notes → IsTaken ctx body u notes
  taken-of u notes e = taken-by u notes (parts_of body) refl e

  withdrawn-by : (routes : Routes) (notes : List Note) (o : Option Parts) → parts_of body ≡ o → of_parts ctx o ≡ withdraw routes notes → IsWithdrawn ctx body routes notes
  withdrawn-by routes notes None found e = absurd cc
  withdrawn-by routes notes (Some p) found e = withdrawn-on p found routes notes (reset_of p (marks_of ctx p)) (is_withdrawn p (marks_of ctx p)) (is_reachable p (marks_of ctx p)) refl refl e

  pub withdrawn-of : (routes : Routes) (notes : List Note) → verdict_of ctx body ≡ verdict.Withdraw routes notes → IsWithdrawn ctx body routes notes
  withdrawn-of routes notes e = withdrawn-by routes notes (parts_of body) refl e
