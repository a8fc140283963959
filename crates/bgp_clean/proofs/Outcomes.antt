-- What can be passed on of a message's outcome.
use Rattle.bgp_clean.proofs.Prelude.{◌≡◌, ℕ, ◌+◌, ◌≤◌, Bool, true, false, cond, List, [], ◌∷◌, ◌++◌, length, drop, Option, Some, None, Result, Ok, Err, refl}
use Rattle.bgp_clean.proofs.Prelude.{sym, ap, ap₂, subst, ◌∙◌, arith, nil_from_length, slice_index, AreOctets, Kind, octets_of, header, IsLength}
use Rattle.bgp_clean.proofs.Prelude.{Notification, Context, OpenFault, Open, open_notification, reading_of, is_bad, Invalid, Note, Routes}
use Rattle.bgp_clean.proofs.Prelude.{Update, Verdict, verdict_of, withdrawal_octets, Message, Outcome, of_open_fault, of_reading, of_verdict, of_body}
use Rattle.bgp_clean.proofs.Prelude.{notification_in, out_of, kind_of, notification_octets}
use Rattle.bgp_frame.specs.Frame as frame
use Rattle.bgp_clean.proofs.Prelude.{CanBeWritten, taken-written}
use Rattle.bgp_update.proofs.Withdrawals.{withdrawal-short}
use Rattle.bgp_msg.specs.Prelude.{canonical}
use Rattle.bgp_msg.proofs.TakenMessages.{taken-body}

good-by : (t : Bool) → (let why : Option Invalid = cond t (Some Invalid.BadOpen) None in why ≡ None) → t ≡ false
good-by true e = absurd cc
good-by false e = refl

module _ (ctx : Context) (m : frame.Message) (octets : AreOctets m.body) (allowed : IsLength m.kind (19 + length m.body)) where
  -- an OPEN that is accepted is valid
  pub open_good : (o : Open) (notes : List Note) → out_of ctx m ≡ Outcome.Took (Message.Open o) notes → is_bad o ≡ false
  open_good o notes is = good-by (is_bad o) (taken-body ctx m (Message.Open o) notes octets allowed is).valid

-- ---- the kind of a message with an outcome

abbrev some_kind : Kind → Option Kind
some_kind k = Some k

abbrev kind_in : Outcome → Option Kind
kind_in (Outcome.Took said notes) = Some (kind_of said)
kind_in (Outcome.Withdraw routes notes) = Some Kind.Update
kind_in (Outcome.Reset n) = None

same_kind : (k j : Kind) → some_kind k ≡ some_kind j → k ≡ j
same_kind k j e = cc

no_kind : (j : Kind) → (let none : Option Kind = None in none ≡ some_kind j) → ⊥
no_kind j e = absurd cc

fault-kind : (n : Option Notification) (j : Kind) → kind_in (of_open_fault n) ≡ some_kind j → Kind.Open ≡ j
fault-kind (Some n) j e = absurd (no_kind j e)
fault-kind None j e = absurd (no_kind j e)

open-kind : (r : Result Open OpenFault) (j : Kind) → kind_in (of_reading r) ≡ some_kind j → Kind.Open ≡ j
open-kind (Ok o) j e = same_kind Kind.Open j e
open-kind (Err f) j e = fault-kind (open_notification f) j e

update-kind : (v : Verdict) (j : Kind) → kind_in (of_verdict v) ≡ some_kind j → Kind.Update ≡ j
update-kind (Verdict.Take u notes) j e = same_kind Kind.Update j e
update-kind (Verdict.Withdraw routes notes) j e = same_kind Kind.Update j e
update-kind (Verdict.Reset n) j e = absurd (no_kind j e)

body-kind : (ctx : Context) (k : Kind) (body : List ℕ) (j : Kind) → kind_in (of_body ctx k body) ≡ some_kind j → k ≡ j
body-kind ctx Kind.Open body j e = open-kind (reading_of body) j e
body-kind ctx Kind.Update body j e = update-kind (verdict_of ctx body) j e
body-kind ctx Kind.Notification body j e = same_kind Kind.Notification j e
body-kind ctx Kind.Keepalive body j e = same_kind Kind.Keepalive j e

-- ---- messages that are passed on unchanged, and withdrawals

two-first : (b : List ℕ) → 2 ≤ length b → slice_index b 0 ∷ slice_index b 1 ∷ drop 2 b ≡ b
two-first (x ∷ y ∷ b) two = refl
two-first (x ∷ []) two = absurd (omega arith)
two-first [] two = absurd (omega arith)

same_notification : (a b : Notification) (ns notes : List Note) → (let one : Outcome = Outcome.Took (Message.Notification a) ns in one ≡ Outcome.Took (Message.Notification b) notes) → a ≡ b
same_notification a b ns notes e = cc

withdrawn-by : (v : Verdict) (routes : Routes) (notes : List Note) → of_verdict v ≡ Outcome.Withdraw routes notes → v ≡ Verdict.Withdraw routes notes
withdrawn-by (Verdict.Take u ns) routes notes e = absurd cc
withdrawn-by (Verdict.Withdraw r ns) routes notes e = cc
withdrawn-by (Verdict.Reset n) routes notes e = absurd cc

accepted-by : (v : Verdict) (u : Update) (notes : List Note) → of_verdict v ≡ Outcome.Took (Message.Update u) notes → v ≡ Verdict.Take u notes
accepted-by (Verdict.Take w ns) u notes e = cc
accepted-by (Verdict.Withdraw r ns) u notes e = absurd cc
accepted-by (Verdict.Reset n) u notes e = absurd cc

pub at_most : (k : Kind) (n : ℕ) → IsLength k (19 + n) → n ≤ 4077
at_most Kind.Open n allowed = omega (arith, allowed.most)
at_most Kind.Update n allowed = omega (arith, allowed.most)
at_most Kind.Notification n allowed = omega (arith, allowed.most)
at_most Kind.Keepalive n allowed = omega (arith, allowed.most)

module _ (ctx : Context) (m : frame.Message) (allowed : IsLength m.kind (19 + length m.body)) where
  is-kind : (o : Outcome) (j : Kind) → out_of ctx m ≡ o → kind_in o ≡ some_kind j → m.kind ≡ j
  is-kind o j is e = body-kind ctx m.kind m.body j (ap kind_in is ∙ e)

  as-kind : (o : Outcome) (j : Kind) → out_of ctx m ≡ o → m.kind ≡ j → of_body ctx j m.body ≡ o
  as-kind o j is e = subst (λ (k : Kind). of_body ctx k m.body ≡ o) e is

  pub notification_same : (n : Notification) (notes : List Note) → out_of ctx m ≡ Outcome.Took (Message.Notification n) notes → canonical ctx (Message.Notification n) ≡ octets_of m
  notification_same n notes is =
      let of : m.kind ≡ Kind.Notification = is-kind (Outcome.Took (Message.Notification n) notes) Kind.Notification is refl in
      let least : IsLength Kind.Notification (19 + length m.body) = subst (λ (k : Kind). IsLength k (19 + length m.body)) of allowed in
      let says : notification_in m.body ≡ n = same_notification (notification_in m.body) n [] notes (as-kind (Outcome.Took (Message.Notification n) notes) Kind.Notification is of) in
      let body : notification_octets n ≡ m.body = ap notification_octets (sym says) ∙ two-first m.body (omega (arith, least.least)) in
      ap₂ (λ (k : Kind) (b : List ℕ). header k (19 + length b) ++ b) (sym of) body

  pub keepalive_same : (notes : List Note) → out_of ctx m ≡ Outcome.Took Message.Keepalive notes → canonical ctx Message.Keepalive ≡ octets_of m
  keepalive_same notes is =
      let of : m.kind ≡ Kind.Keepalive = is-kind (Outcome.Took Message.Keepalive notes) Kind.Keepalive is refl in
      let most : IsLength Kind.Keepalive (19 + length m.body) = subst (λ (k : Kind). IsLength k (19 + length m.body)) of allowed in
      let none : [] ≡ m.body = sym (nil_from_length m.body (omega (arith, most.most))) in
      ap₂ (λ (k : Kind) (b : List ℕ). header k (19 + length b) ++ b) (sym of) none

  -- the UPDATE that withdraws the routes is no longer than the message
  pub withdrawal_short : AreOctets m.body → (routes : Routes) (notes : List Note) → out_of ctx m ≡ Outcome.Withdraw routes notes → length (withdrawal_octets routes) ≤ 4077
  withdrawal_short octets routes notes is =
      let of : m.kind ≡ Kind.Update = is-kind (Outcome.Withdraw routes notes) Kind.Update is refl in
      let verdict_is = withdrawn-by (verdict_of ctx m.body) routes notes (as-kind (Outcome.Withdraw routes notes) Kind.Update is of) in
      omega (arith, at_most m.kind (length m.body) allowed, withdrawal-short ctx m.body routes notes octets verdict_is)

  -- an UPDATE that is accepted can be written in its context
  pub update_can : AreOctets m.body → (u : Update) (notes : List Note) → out_of ctx m ≡ Outcome.Took (Message.Update u) notes → CanBeWritten ctx u m.body
  update_can octets u notes is =
      let of : m.kind ≡ Kind.Update = is-kind (Outcome.Took (Message.Update u) notes) Kind.Update is refl in
      taken-written ctx m.body u notes octets (accepted-by (verdict_of ctx m.body) u notes (as-kind (Outcome.Took (Message.Update u) notes) Kind.Update is of))
