-- The capabilities of an OPEN in its message.
use Rattle.ristulva_c.proofs.Below.{◌≡◌, ℕ, ◌+◌, ◌-◌, ◌≤◌, List, ◌++◌, length, take, drop, Option, None, Some, Result, Ok, Err, refl, sym, ap, ◌∙◌, arith, drop-take, drop_at, drop-drop, length-take, Kind, least_length, Message, IsFrame, header, Notification, Context, OpenFault, Open, capabilities_of, open_fault, open_notification, open_of, or_fault, reading_of, Verdict, verdict_of, of_open_fault, of_reading, of_verdict, of_body, length-header}
use Rattle.bgp_frame.specs.declared.kind.Kind.TheVariants as kind
use Rattle.bgp_open.proofs.CapabilityIters.{none_begun}
use Rattle.bgp_update.specs.declared.verdict.Verdict.TheVariants as verdict
use Rattle.ristulva_c.specs.Prelude.{accepted, accepted_in, read_in, Gives, between}
use Rattle.ristulva_c.specs.Opens.{cursor_of}
use Rattle.bgp_frame.specs.Kind.{plain}
use Rattle.bgp_frame.specs.steps.AreTypes.{plain-are}

-- the outcome of a message, in any context
verdict_none : (v : Verdict) → accepted (of_verdict v) ≡ None
verdict_none (verdict.Take u notes) = refl
verdict_none (verdict.Withdraw routes notes) = refl
verdict_none (verdict.Reset n) = refl

fault_none : (n : Option Notification) → accepted (of_open_fault n) ≡ None
fault_none None = refl
fault_none (Some n) = refl

reading_same : (r : Result Open OpenFault) → accepted (of_reading r) ≡ read_in r
reading_same (Ok o) = refl
reading_same (Err fault) = fault_none (open_notification fault)

pub accepts : (ctx : Context) (k : Kind) (body : List ℕ) → accepted (of_body ctx k body) ≡ accepted_in k body
accepts ctx kind.Open body = reading_same (reading_of body)
accepts ctx kind.Update body = verdict_none (verdict_of ctx body)
accepts ctx kind.Notification body = refl
accepts ctx kind.Keepalive body = refl

-- what is read is the value of a body
abbrev IsRead : Kind → List ℕ → Open → Type 0
IsRead k body o = (29 ≤ least_length k) × (open_of body ≡ o)

read_by : (body : List ℕ) (o : Open) (f : Option OpenFault) → read_in (or_fault f (open_of body)) ≡ Some o → open_of body ≡ o
read_by body o None e = cc
read_by body o (Some f) e = absurd cc

is_read : (k : Kind) (body : List ℕ) (o : Open) → accepted_in k body ≡ Some o → IsRead k body o
is_read kind.Open body o e = let none : 29 ≤ 29 = omega arith in (none, read_by body o (open_fault body) e)
is_read kind.Update body o e = absurd cc
is_read kind.Notification body o e = absurd cc
is_read kind.Keepalive body o e = absurd cc

-- the parameters of a message of length n
parameters_at : (octets : List ℕ) (n : ℕ) (m : Message) → n ≤ length octets → 29 ≤ n → IsFrame m (take n octets) → between octets 29 n ≡ drop 10 m.body
parameters_at octets n m within long frame =
    let head = header m.kind (19 + length m.body) in
    let many : n ≡ 29 + (n - 29) = omega (arith, long) in
    sym (drop-take 29 (n - 29) octets)
    ∙ ap (λ (k : ℕ). drop 29 (take k octets)) (sym many)
    ∙ ap (drop 29) frame.octets
    ∙ sym (drop-drop 10 19 (head ++ m.body))
    ∙ ap (drop 10) (drop_at head m.body 19 (sym (length-header plain plain-are m.kind (19 + length m.body))))

pub gives : (octets : List ℕ) (n : ℕ) (m : Message) (o : Open) → n ≤ length octets → IsFrame m (take n octets) → accepted_in m.kind m.body ≡ Some o
    → Gives octets o.caps (cursor_of n)
gives octets n m o within frame is =
    let read = is_read m.kind m.body o is in
    let len : length (take n octets) ≡ n = omega (arith, length-take n octets, within) in
    let long : 29 ≤ n = omega (arith, len, read.0, frame.allowed.least) in
    let none : 29 ≤ 29 = omega arith in
    record {
      lies = record { in_order = none; before_end = long; within = within };
      gives = none_begun (capabilities_of (between octets 29 n)) ∙ ap capabilities_of (parameters_at octets n m within long frame) ∙ ap (λ (x : Open). x.caps) read.1;
    }
