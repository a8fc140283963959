-- The outcome of a message, case by case.
use Rattle.ristulva_c.proofs.Below.{◌≡◌, ℕ, Bool, true, false, cond, List, [], Option, Some, None, refl, Result, Ok, Err, Kind, Notification, Context, OpenFault, Open, open_notification, reading_of, malformed, marks_of, is_reachable, notes_of, routes_of, Parts, parts_of, update_of, is_withdrawn, of_parts, reset_of, unless_reset, without_reset, Outcome, of_open_fault, of_reading, of_verdict, out_of}
use Rattle.bgp_frame.specs.declared.kind.Kind.TheVariants as kind
use Rattle.bgp_update.specs.declared.verdict.Verdict.TheVariants as verdict
use Rattle.bgp_msg.specs.declared.message.Message.TheVariants as message
use Rattle.bgp_msg.specs.declared.outcome.Outcome.TheVariants as outcome

-- what holds of each outcome but that of an UPDATE
pub record OfOthers (P : Outcome → Type 0) : Type 0 where
  pub reset : (n : Notification) → P (outcome.Reset n)
  pub open_taken : (o : Open) → P (outcome.Took (message.Open o) [])
  pub notification : (n : Notification) → P (outcome.Took (message.Notification n) [])
  pub keepalive : P (outcome.Took message.Keepalive [])

module _ (ctx : Context) (body : List ℕ) (P : Outcome → Type 0) (others : OfOthers P)
    (taken : (p : Parts) → parts_of body ≡ Some p → P (outcome.Took (message.Update (update_of p (marks_of ctx p))) (notes_of p (marks_of ctx p))))
    (withdrawn : (p : Parts) → parts_of body ≡ Some p → P (outcome.Withdraw (routes_of p (marks_of ctx p)) (notes_of p (marks_of ctx p)))) where
  by_tests : (p : Parts) → parts_of body ≡ Some p → (w r : Bool) → P (of_verdict (cond w
      (cond r (verdict.Withdraw (routes_of p (marks_of ctx p)) (notes_of p (marks_of ctx p))) (verdict.Reset malformed))
      (verdict.Take (update_of p (marks_of ctx p)) (notes_of p (marks_of ctx p)))))
  by_tests p is true true = withdrawn p is
  by_tests p is true false = others.reset malformed
  by_tests p is false r = taken p is

  by_reset : (p : Parts) → parts_of body ≡ Some p → (n : Option Notification) → P (of_verdict (unless_reset n (without_reset p (marks_of ctx p))))
  by_reset p is (Some n) = others.reset n
  by_reset p is None = by_tests p is (is_withdrawn p (marks_of ctx p)) (is_reachable p (marks_of ctx p))

  by_parts : (o : Option Parts) → parts_of body ≡ o → P (of_verdict (of_parts ctx o))
  by_parts None is = others.reset malformed
  by_parts (Some p) is = by_reset p is (reset_of p (marks_of ctx p))

  by_fault : (n : Option Notification) → P (of_open_fault n)
  by_fault (Some n) = others.reset n
  by_fault None = others.reset _

  by_reading : (r : Result Open OpenFault) → P (of_reading r)
  by_reading (Ok o) = others.open_taken o
  by_reading (Err fault) = by_fault (open_notification fault)

  pub by_kind : (k : Kind) → P (out_of ctx (record { kind = k; body = body }))
  by_kind kind.Open = by_reading (reading_of body)
  by_kind kind.Update = by_parts (parts_of body) refl
  by_kind kind.Notification = others.notification _
  by_kind kind.Keepalive = others.keepalive
