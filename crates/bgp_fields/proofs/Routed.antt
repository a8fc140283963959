-- The prefix fields of an UPDATE that is accepted, or treated as a withdrawal, are its routes.
use Rattle.bgp_fields.proofs.Prelude.{◌≡◌, ℕ, ◌+◌, List, ◌++◌, length, Some, None, Result, Ok, Err, refl, sym, ap, ap₂, subst, ◌∙◌, w16, to_be_bytes, Kind}
use Rattle.bgp_fields.proofs.Prelude.{IsFrame, header, AreOctets, AreOctets-front, AreOctets-back, Context, OpenFault, Version, Parameter, UnknownParameter}
use Rattle.bgp_fields.proofs.Prelude.{Memory, Open, reading_of, Hold, Identifier, PrefixValue, Note, Routes, Update, Verdict, marks_of, routes_of, Parts}
use Rattle.bgp_fields.proofs.Prelude.{parts_of, update_of, reset_of, verdict_of, parts-body, Message, Outcome, of_reading, of_verdict, of_body, out_of}
use Rattle.bgp_fields.proofs.Prelude.{fields_of, ShowsRoutes, ShowsWithdrawal, taken-of, withdrawn-of}
use Rattle.bgp_frame.specs.Frame as frame
use Rattle.bgp_fields.proofs.ShownRoutes.{routes-shown}

abbrev took : Message → List Note → Outcome
took said notes = Outcome.Took said notes

abbrev withdraw : Routes → List Note → Outcome
withdraw routes notes = Outcome.Withdraw routes notes

same-update : (u v : Update) (ns ms : List Note) → took (Message.Update u) ns ≡ took (Message.Update v) ms → u ≡ v
same-update u v ns ms e = cc

same-routes : (r s : Routes) (ns ms : List Note) → withdraw r ns ≡ withdraw s ms → r ≡ s
same-routes r s ns ms e = cc

module _ (ctx : Context) where
  abbrev whole : List ℕ → List ℕ
  whole body = header Kind.Update (19 + length body) ++ body

  -- the octets of these parts show the routes of the parts
  parts-shown : (body : List ℕ) (p : Parts) → AreOctets body → parts_of body ≡ Some p → reset_of p (marks_of ctx p) ≡ None
      → ShowsRoutes (whole body) (fields_of ctx (whole body)) (update_of p (marks_of ctx p))
  parts-shown body p octets found goes =
      let is = parts-body body p octets found in
      let later : AreOctets (p.withdrawn ++ (to_be_bytes w16 (length p.attributes) ++ (p.attributes ++ p.nlri))) =
      AreOctets-back (to_be_bytes w16 (length p.withdrawn)) _ (subst AreOctets is.octets octets) in
      let behind : AreOctets (p.attributes ++ p.nlri) = AreOctets-back (to_be_bytes w16 (length p.attributes)) _ (AreOctets-back p.withdrawn _ later) in
      routes-shown ctx p (19 + length body) body octets (AreOctets-front p.attributes p.nlri behind) is goes

  -- ---- accepted

  update-by : (body : List ℕ) (u : Update) (notes : List Note) → AreOctets body → (v : Verdict) → verdict_of ctx body ≡ v → of_verdict v ≡ took (Message.Update u) notes
      → ShowsRoutes (whole body) (fields_of ctx (whole body)) u
  update-by body u notes octets (Verdict.Take w ns) is e =
      let taken = taken-of ctx body w ns is in
      let same : w ≡ u = same-update w u ns notes e in
      subst (ShowsRoutes (whole body) (fields_of ctx (whole body))) (taken.update ∙ same) (parts-shown body taken.parts octets taken.found taken.no_reset)
  update-by body u notes octets (Verdict.Withdraw routes ns) is e = absurd cc
  update-by body u notes octets (Verdict.Reset n) is e = absurd cc

  pub open-not : (u : Update) (notes : List Note) (r : Result Open OpenFault) → of_reading r ≡ took (Message.Update u) notes → ⊥
  open-not u notes (Ok o) e = absurd cc
  open-not u notes (Err Version) e = absurd cc
  open-not u notes (Err Parameter) e = absurd cc
  open-not u notes (Err UnknownParameter) e = absurd cc
  open-not u notes (Err Hold) e = absurd cc
  open-not u notes (Err Identifier) e = absurd cc
  open-not u notes (Err Memory) e = absurd cc

  kind-by : (k : Kind) (body : List ℕ) (u : Update) (notes : List Note) → AreOctets body → of_body ctx k body ≡ took (Message.Update u) notes
      → ShowsRoutes (header k (19 + length body) ++ body) (fields_of ctx (header k (19 + length body) ++ body)) u
  kind-by Kind.Open body u notes octets e = absurd (open-not u notes (reading_of body) e)
  kind-by Kind.Update body u notes octets e = update-by body u notes octets (verdict_of ctx body) refl e
  kind-by Kind.Notification body u notes octets e = absurd cc
  kind-by Kind.Keepalive body u notes octets e = absurd cc

  -- ---- treated as a withdrawal

  shown-withdrawal : (octets : List ℕ) (p : Parts) (routes : Routes) → ShowsRoutes octets (fields_of ctx octets) (update_of p (marks_of ctx p))
      → routes_of p (marks_of ctx p) ≡ routes → ShowsWithdrawal octets (fields_of ctx octets) routes
  shown-withdrawal octets p routes shows is = record {
    ip4 = sym (ap (λ (r : Routes). r.ip4) is) ∙ ap₂ (λ (a b : List PrefixValue). a ++ b) (sym shows.withdrawn)
        (ap₂ (λ (a b : List PrefixValue). a ++ b) (sym shows.unreach4) (ap₂ (λ (a b : List PrefixValue). a ++ b) (sym shows.reach4) (sym shows.nlri)));
    ip6 = sym (ap (λ (r : Routes). r.ip6) is) ∙ ap₂ (λ (a b : List PrefixValue). a ++ b) (sym shows.unreach6) (sym shows.reach6);
  }

  gone-by : (body : List ℕ) (routes : Routes) (notes : List Note) → AreOctets body → (v : Verdict) → verdict_of ctx body ≡ v → of_verdict v ≡ withdraw routes notes
      → ShowsWithdrawal (whole body) (fields_of ctx (whole body)) routes
  gone-by body routes notes octets (Verdict.Withdraw r ns) is e =
      let gone = withdrawn-of ctx body r ns is in
      shown-withdrawal (whole body) gone.parts routes (parts-shown body gone.parts octets gone.found gone.no_reset) (gone.routes_are ∙ same-routes r routes ns notes e)
  gone-by body routes notes octets (Verdict.Take u ns) is e = absurd cc
  gone-by body routes notes octets (Verdict.Reset n) is e = absurd cc

  pub open-gone : (routes : Routes) (notes : List Note) (r : Result Open OpenFault) → of_reading r ≡ withdraw routes notes → ⊥
  open-gone routes notes (Ok o) e = absurd cc
  open-gone routes notes (Err Version) e = absurd cc
  open-gone routes notes (Err Parameter) e = absurd cc
  open-gone routes notes (Err UnknownParameter) e = absurd cc
  open-gone routes notes (Err Hold) e = absurd cc
  open-gone routes notes (Err Identifier) e = absurd cc
  open-gone routes notes (Err Memory) e = absurd cc

  kind-gone : (k : Kind) (body : List ℕ) (routes : Routes) (notes : List Note) → AreOctets body → of_body ctx k body ≡ withdraw routes notes
      → ShowsWithdrawal (header k (19 + length body) ++ body) (fields_of ctx (header k (19 + length body) ++ body)) routes
  kind-gone Kind.Open body routes notes octets e = absurd (open-gone routes notes (reading_of body) e)
  kind-gone Kind.Update body routes notes octets e = gone-by body routes notes octets (verdict_of ctx body) refl e
  kind-gone Kind.Notification body routes notes octets e = absurd cc
  kind-gone Kind.Keepalive body routes notes octets e = absurd cc

pub accepted-routes : (ctx : Context) (m : frame.Message) (octets : List ℕ) (u : Update) (notes : List Note) → AreOctets octets → IsFrame m octets
    → out_of ctx m ≡ Outcome.Took (Message.Update u) notes → ShowsRoutes octets (fields_of ctx octets) u
accepted-routes ctx m octets u notes all is e =
    let body : AreOctets m.body = AreOctets-back (header m.kind (19 + length m.body)) m.body (subst AreOctets is.octets all) in
    subst (λ (b : List ℕ). ShowsRoutes b (fields_of ctx b) u) (sym is.octets) (kind-by ctx m.kind m.body u notes body e)

pub withdrawn-routes : (ctx : Context) (m : frame.Message) (octets : List ℕ) (routes : Routes) (notes : List Note) → AreOctets octets → IsFrame m octets
    → out_of ctx m ≡ Outcome.Withdraw routes notes → ShowsWithdrawal octets (fields_of ctx octets) routes
withdrawn-routes ctx m octets routes notes all is e =
    let body : AreOctets m.body = AreOctets-back (header m.kind (19 + length m.body)) m.body (subst AreOctets is.octets all) in
    subst (λ (b : List ℕ). ShowsWithdrawal b (fields_of ctx b) routes) (sym is.octets) (kind-gone ctx m.kind m.body routes notes body e)
