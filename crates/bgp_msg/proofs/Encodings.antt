-- Encoded bodies are as long as their kind allows, and decode to the message that was meant.
use Rattle.bgp_wire.proofs.Std.{cond, ◌||◌, ◌≡◌, ℕ, ◌+◌, ◌≤◌, Bool, true, false, ltb, List, [], ◌∷◌, length, Option, Some, None, Result, Ok, Err, IsTrue, OnOk, IsErrOf, refl, sym, ap, arith, list_any, ltb-true, ltb-false, or_parts}
use Rattle.std.specs.Prelude.{is_none}
use Rattle.std.proofs.lemmas.Bool.{true≢false}
use Rattle.std.proofs.lemmas.List.{length-append}
use Rattle.bgp_frame.specs.declared.kind.Kind.TheVariants as kind
use Rattle.bgp_frame.specs.declared.notification.Notification.{Notification}
use Rattle.bgp_frame.specs.Prelude.{IsLength}
use Rattle.bgp_frame.proofs.FrameLemmas.{length-octets_of}
use Rattle.bgp_open.specs.declared.context.Context.{Context}
use Rattle.bgp_open.specs.declared.message.Open.{Open}
use Rattle.bgp_open.specs.Prelude.{IsOpen, is_short_hold, is_zero_id, reading_of}
use Rattle.bgp_open.specs.Written as opens
use Rattle.bgp_open.proofs.Readings.{spelling-reads}
use Rattle.bgp_update.specs.declared.invalid.Invalid.{Invalid}
use Rattle.bgp_update.specs.declared.update.Update.{Update}
use Rattle.bgp_update.specs.declared.write.WriteFault.{WriteFault}
use Rattle.bgp_update.specs.declared.write.WriteFault.TheVariants.{NotValid, Memory}
use Rattle.bgp_update.specs.declared.invalid.Invalid.TheVariants as invalid
use Rattle.bgp_attr.specs.Prelude.{run_octets}
use Rattle.bgp_update.specs.declared.write.WriteFault.TheVariants.{TooLong}
use Rattle.bgp_update.specs.Written as updates
use Rattle.bgp_update.proofs.Bodies.{length-body}
use Rattle.bgp_msg.specs.declared.message.Message.{Message}
use Rattle.bgp_msg.specs.declared.outcome.Outcome.TheVariants.{Took}
use Rattle.bgp_msg.specs.Prelude.{of_reading, written, invalid_open, is_valid, is_too_long}
use Rattle.bgp_msg.specs.declared.message.Message.TheVariants as message
use Rattle.bgp_frame.specs.Kind.{plain}
use Rattle.bgp_frame.specs.steps.AreTypes.{plain-are}

abbrev some_invalid : Invalid → Option Invalid
some_invalid why = Some why

pub not_ok : (x : Unit {0}) (f : WriteFault) → IsErrOf {T = Unit {0}} (Ok x) f → ⊥
not_ok x f e = absurd cc

pub not_memory : (why : Invalid) → IsErrOf {T = Unit {0}} (Err Memory) (NotValid why) → ⊥
not_memory why e = absurd cc

-- the body of a message that is too long has more than 4077 octets
pub long_body : (ctx : Context) (m : Message) → IsTrue (is_too_long ctx m) → 4078 ≤ length (written ctx m).body
long_body ctx m e = omega (arith, ltb-true _ _ e, length-octets_of plain plain-are (written ctx m))

-- ---- OPEN

pub open_taken : (o : Open) → IsOpen o (opens.canonical o) → of_reading (reading_of (opens.canonical o)) ≡ Took (message.Open o) []
open_taken o spelled = ap of_reading (spelling-reads (opens.canonical o) o spelled)

parameter_short : (row : List ℕ) → length row ≤ 253 → length (opens.parameter_octets row) ≤ 255
parameter_short [] le = omega arith
parameter_short (x ∷ row) le = omega arith

pub open_short : (o : Open) → length o.id ≡ 4 → opens.is_bad o ≡ false → length (opens.canonical o) ≤ 265
open_short o four good =
    let held = or_parts (is_short_hold o.hold) (is_zero_id o.id || opens.is_bad_row o.caps) good in
    let named = or_parts (is_zero_id o.id) (opens.is_bad_row o.caps) held.1 in
    let row = or_parts (ltb 253 (length (opens.row_octets o.caps))) (list_any opens.is_misnamed o.caps) named.1 in
    let parameters : List ℕ = opens.parameter_octets (opens.row_octets o.caps) in
    let few : length parameters ≤ 255 = parameter_short (opens.row_octets o.caps) (ltb-false 253 (length (opens.row_octets o.caps)) row.0) in
    omega (arith, four, few, length-append o.id (length parameters ∷ parameters))

good_open : (t : Bool) → IsTrue (is_none (cond t (some_invalid invalid.BadOpen) None)) → t ≡ false
good_open true e = absurd (true≢false (sym e))
good_open false e = refl

pub open_fits : (ctx : Context) (o : Open) → (opens.is_bad o ≡ false → length (opens.canonical o) ≤ 265) → IsTrue (is_valid ctx (message.Open o)) → IsTrue (is_too_long ctx (message.Open o)) → ⊥
open_fits ctx o short valid long = absurd (omega (arith, short (good_open (opens.is_bad o) valid), long_body ctx (message.Open o) long))

open_allowed : (o : Open) → IsOpen o (opens.canonical o) → length (opens.canonical o) ≤ 265 → IsLength kind.Open (19 + length (opens.canonical o))
open_allowed o spelled le = record { least = omega (arith, spelled.fixed); most = omega arith }

bad_open : (o : Open) → opens.is_bad o ≡ true → invalid_open o ≡ Some invalid.BadOpen
bad_open o e = ap (λ (t : Bool). cond t (some_invalid invalid.BadOpen) None) e

open_by : (o : Open) → IsOpen o (opens.canonical o) → (invalid_open o ≡ Some invalid.BadOpen → ⊥) → (opens.is_bad o ≡ false → length (opens.canonical o) ≤ 265) → (t : Bool) → opens.is_bad o ≡ t
    → IsLength kind.Open (19 + length (opens.canonical o))
open_by o spelled valid short true e = absurd (valid (bad_open o e))
open_by o spelled valid short false e = open_allowed o spelled (short e)

pub open_written : (o : Open) (r : Result (Unit {0}) WriteFault) → OnOk r (IsOpen o (opens.canonical o)) → (invalid_open o ≡ Some invalid.BadOpen → IsErrOf r (NotValid invalid.BadOpen))
    → (opens.is_bad o ≡ false → length (opens.canonical o) ≤ 265) → OnOk r (IsLength kind.Open (19 + length (opens.canonical o)))
open_written o (Ok x) spelled valid short = open_by o spelled (λ e. not_ok x (NotValid invalid.BadOpen) (valid e)) short (opens.is_bad o) refl
open_written o (Err f) spelled valid short = tt

-- ---- NOTIFICATION

pub notification_fits : (ctx : Context) (n : Notification) → length n.info.items ≤ 4075 → IsTrue (is_too_long ctx (message.Notification n)) → ⊥
notification_fits ctx n le long = absurd (omega (arith, long_body ctx (message.Notification n) long))

-- ---- UPDATE

module _ (ctx : Context) (u : Update) where
  long : length (updates.written_body ctx u) ≡ 4 + (length (run_octets u.withdrawn) + (length (updates.attributes_octets ctx u.attrs) + length (run_octets u.nlri)))
  long = length-body (run_octets u.withdrawn) (updates.attributes_octets ctx u.attrs) (run_octets u.nlri)

  update_by : ((why : Invalid) → updates.invalid_of ctx u ≡ Some why → ⊥) → (IsTrue (updates.is_valid ctx u) × IsTrue (updates.is_too_long ctx u) → ⊥)
      → (o : Option Invalid) → updates.invalid_of ctx u ≡ o → (t : Bool) → updates.is_too_long ctx u ≡ t → length (updates.written_body ctx u) ≤ 4077
  update_by valid fits (Some why) e t f = absurd (valid why e)
  update_by valid fits None e true f = absurd (fits (ap (λ (o : Option Invalid). is_none o) e, f))
  update_by valid fits None e false f = ltb-false 4077 (length (updates.written_body ctx u)) f

  update_allowed : ((why : Invalid) → updates.invalid_of ctx u ≡ Some why → ⊥) → (IsTrue (updates.is_valid ctx u) × IsTrue (updates.is_too_long ctx u) → ⊥)
      → IsLength kind.Update (19 + length (updates.written_body ctx u))
  update_allowed valid fits =
      let le = update_by valid fits (updates.invalid_of ctx u) refl (updates.is_too_long ctx u) refl in
      record { least = omega (arith, long); most = omega arith }

  pub update_written : (r : Result (Unit {0}) WriteFault) → ((why : Invalid) → updates.invalid_of ctx u ≡ Some why → IsErrOf r (NotValid why))
      → (IsTrue (updates.is_valid ctx u) × IsTrue (updates.is_too_long ctx u) → IsErrOf r TooLong) → OnOk r (IsLength kind.Update (19 + length (updates.written_body ctx u)))
  update_written (Ok x) valid fits = update_allowed (λ why e. not_ok x (NotValid why) (valid why e)) (λ both. not_ok x TooLong (fits both))
  update_written (Err f) valid fits = tt
