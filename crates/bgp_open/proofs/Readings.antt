-- An OPEN is read as what its octets spell, and octets that are read spell it.
use Rattle.bgp_wire.proofs.Std.{◌≡◌, ◌≢◌, ℕ, ◌≤◌, Bool, true, false, not, ◌&&◌, cond, eqb, ltb, List, [], ◌∷◌, length, Option, Some, None, Result, Ok, Err, refl, sym, ap, subst, ◌∙◌, not-false}
use Rattle.std.specs.Prelude.{IfOk}
use Rattle.std.proofs.lemmas.Bool.{eqb-true, eq-eqb, ne_eqb, true≢false}
use Rattle.bgp_wire.specs.Prelude.{when, pieces}
use Rattle.bgp_wire.proofs.Behinds.{pieces-whole, Row-pieces}
use Rattle.bgp_numbers.specs.declared.TheConstants.{VERSION}
use Rattle.bgp_numbers.specs.declared.parameter.TheConstants.{CAPABILITIES}
use Rattle.bgp_open.specs.declared.capability.Capability.{Capability}
use Rattle.bgp_open.specs.declared.message.Open.{Open}
use Rattle.bgp_open.specs.declared.fault.OpenFault.{OpenFault}
use Rattle.bgp_open.specs.declared.fault.OpenFault.TheVariants.{Version, Parameter, UnknownParameter, Memory}
use Rattle.bgp_open.specs.Prelude.{IsParameter, one_parameter, version_of, as_field_of, hold_of, id_of, length_of, parameters_of, IsHold, zero_id, is_short_hold, is_zero_id, joined, IsOpen, first_fault, rest_fault, open_fault, open_of, or_fault, reading_of, FailsAs, IsReadAs, HasValueOrFault}
use Rattle.bgp_open.specs.declared.fault.OpenFault.TheVariants.{Hold, Identifier}
use Rattle.bgp_open.proofs.Parameters.{parameter-reads}

-- ---- the tests one by one

pub hold-short : (n : ℕ) → is_short_hold n ≡ false → IsHold n
hold-short n e = record {
  not_one = λ is. (let same : true ≡ false = rw is at e in true≢false same);
  not_two = λ is. (let same : true ≡ false = rw is at e in true≢false same);
}

pub short-hold : (n : ℕ) → IsHold n → is_short_hold n ≡ false
short-hold n h = rw (ne_eqb n 1 h.not_one, ne_eqb n 2 h.not_two) refl

pub id-zero : (id : List ℕ) → is_zero_id id ≡ false → id ≢ zero_id
id-zero id e is = let same : true ≡ false = rw is at e in true≢false same

all_false : (p q r s : Bool) → (p ≡ true → q ≡ true → r ≡ true → s ≡ true → ⊥) → (p && (q && (r && s))) ≡ false
all_false false q r s ne = refl
all_false true false r s ne = refl
all_false true true false s ne = refl
all_false true true true false ne = refl
all_false true true true true ne = absurd (ne refl refl refl refl)

pub zero-id : (a b c d : ℕ) → (a ∷ b ∷ c ∷ d ∷ []) ≢ zero_id → is_zero_id (a ∷ b ∷ c ∷ d ∷ []) ≡ false
zero-id a b c d ne = all_false (eqb a 0) (eqb b 0) (eqb c 0) (eqb d 0) (λ p q r s. ne (rw (eqb-true a 0 p, eqb-true b 0 q, eqb-true c 0 r, eqb-true d 0 s) refl))

pub rest_some : (short unknown : Bool) → cond short (Some Parameter) (cond unknown (Some UnknownParameter) (Some Parameter)) ≡ None → ⊥
rest_some true unknown e = absurd cc
rest_some false true e = absurd cc
rest_some false false e = absurd cc

rest_none : (rest : List ℕ) → rest_fault rest ≡ None → rest ≡ []
rest_none [] e = refl
rest_none (kind ∷ []) e = absurd cc
rest_none (kind ∷ n ∷ value) e = absurd (rest_some (ltb (length value) n) (not (eqb kind CAPABILITIES)) e)

-- ---- the tests together

abbrev tests : Bool → Bool → Option OpenFault → Bool → Bool → Option OpenFault
tests v l r h z = first_fault (when v Version ∷ when l Parameter ∷ r ∷ when h Hold ∷ when z Identifier ∷ [])

record Passes (v l : Bool) (r : Option OpenFault) (h z : Bool) : Type 0 where
  version : v ≡ false
  counted : l ≡ false
  row : r ≡ None
  hold : h ≡ false
  id : z ≡ false

passes-none : (v l : Bool) (r : Option OpenFault) (h z : Bool) → Passes v l r h z → tests v l r h z ≡ None
passes-none v l r h z p = rw (p.version, p.counted, p.row, p.hold, p.id) refl

none-passes : (v l : Bool) (r : Option OpenFault) (h z : Bool) → tests v l r h z ≡ None → Passes v l r h z
none-passes true l r h z e = absurd cc
none-passes false true r h z e = absurd cc
none-passes false false (Some f) h z e = absurd cc
none-passes false false None true z e = absurd cc
none-passes false false None false true e = absurd cc
none-passes false false None false false e = record { version = refl; counted = refl; row = refl; hold = refl; id = refl }

-- ---- a body and its value

abbrev body_tests : List ℕ → Option OpenFault
body_tests body = tests (not (eqb (version_of body) VERSION)) (not (eqb (length_of body) (length (parameters_of body)))) (rest_fault (pieces one_parameter (parameters_of body)).1) (is_short_hold (hold_of body)) (is_zero_id (id_of body))

-- what spells an OPEN has no fault, and its parameters are the pieces that the reader finds
row_found : (o : Open) (body : List ℕ) (p : IsOpen o body) → pieces one_parameter (parameters_of body) ≡ (p.parameters, [])
row_found o body p = pieces-whole (List Capability) IsParameter one_parameter parameter-reads p.parameters (parameters_of body) p.row

pub open-no_fault : (o : Open) (body : List ℕ) → IsOpen o body → open_fault body ≡ None
unfolding open_fault
open-no_fault o body p =
    let row = row_found o body p in
    passes-none (not (eqb (version_of body) VERSION)) (not (eqb (length_of body) (length (parameters_of body)))) (rest_fault (pieces one_parameter (parameters_of body)).1) (is_short_hold (hold_of body)) (is_zero_id (id_of body)) record {
      version = ap not (eq-eqb _ _ p.version);
      counted = ap not (eq-eqb _ _ p.counted);
      row = ap (λ (q : List (List Capability) × List ℕ). rest_fault q.1) row;
      hold = short-hold (hold_of body) (subst IsHold p.hold p.hold_allowed);
      id = zero-id _ _ _ _ (λ e. p.id_allowed (p.id ∙ e));
    }

same_open : (o : Open) (as_field hold : ℕ) (id : List ℕ) (caps : List Capability) → o.as_field ≡ as_field → o.hold ≡ hold → o.id ≡ id → o.caps ≡ caps
    → o ≡ record { as_field = as_field; hold = hold; id = id; caps = caps }
same_open o as_field hold id caps a h i c = rw (← a, ← h, ← i, ← c) refl

pub open-value : (o : Open) (body : List ℕ) → IsOpen o body → o ≡ open_of body
open-value o body p =
    let row = row_found o body p in
    let caps : o.caps ≡ joined (pieces one_parameter (parameters_of body)).0 = p.caps ∙ ap (λ (q : List (List Capability) × List ℕ). joined q.0) (sym row) in
    same_open o (as_field_of body) (hold_of body) (id_of body) (joined (pieces one_parameter (parameters_of body)).0) p.as_field p.hold p.id caps

pub no_fault-open : (body : List ℕ) → 10 ≤ length body → open_fault body ≡ None → IsOpen (open_of body) body
unfolding open_fault
no_fault-open body long e =
    let p = none-passes (not (eqb (version_of body) VERSION)) (not (eqb (length_of body) (length (parameters_of body)))) (rest_fault (pieces one_parameter (parameters_of body)).1) (is_short_hold (hold_of body)) (is_zero_id (id_of body)) e in
    let empty = rest_none (pieces one_parameter (parameters_of body)).1 p.row in
    record {
      fixed = long;
      version = eqb-true _ _ (not-false _ p.version);
      as_field = refl;
      hold = refl;
      hold_allowed = hold-short (hold_of body) p.hold;
      id = refl;
      id_allowed = id-zero (id_of body) p.id;
      counted = eqb-true _ _ (not-false _ p.counted);
      parameters = (pieces one_parameter (parameters_of body)).0;
      row = Row-pieces (List Capability) IsParameter one_parameter parameter-reads (parameters_of body) (pieces one_parameter (parameters_of body)).0 (ap (λ (r : List ℕ). ((pieces one_parameter (parameters_of body)).0, r)) empty);
      caps = refl;
    }

-- ---- the result of a reader

or_fault-ok : (f : Option OpenFault) (v o : Open) → or_fault f v ≡ Ok o → (f ≡ None) × (v ≡ o)
or_fault-ok None v o e = (refl, cc)
or_fault-ok (Some fault) v o e = absurd cc

pub reading-spells : (body : List ℕ) → 10 ≤ length body → (o : Open) → reading_of body ≡ Ok o → IsOpen o body
reading-spells body long o e =
    let parts = or_fault-ok (open_fault body) (open_of body) o e in
    subst (λ (v : Open). IsOpen v body) parts.1 (no_fault-open body long parts.0)

pub spelling-reads : (body : List ℕ) (o : Open) → IsOpen o body → reading_of body ≡ Ok o
spelling-reads body o p =
    ap (λ (f : Option OpenFault). or_fault f (open_of body)) (open-no_fault o body p) ∙ ap (λ (v : Open). or_fault None v) (sym (open-value o body p))

pub IsReadAs-found : (body : List ℕ) (r : Result Open OpenFault) → 10 ≤ length body → IsReadAs r (reading_of body) → IfOk r (λ o. IsOpen o body)
IsReadAs-found body (Ok o) long given = reading-spells body long o given
IsReadAs-found body (Err fault) long given = tt

pub IsReadAs-only : (body : List ℕ) (r : Result Open OpenFault) → IsReadAs r (reading_of body) → (o : Open) → IsOpen o body → IsReadAs r (Ok o)
IsReadAs-only body r given o p = subst (λ (reading : Result Open OpenFault). IsReadAs r reading) (spelling-reads body o p) given

-- ---- a value or a fault

rest_not_memory : (short unknown h z : Bool) (fault : OpenFault) → tests false false (cond short (Some Parameter) (cond unknown (Some UnknownParameter) (Some Parameter))) h z ≡ Some fault → fault ≢ Memory
rest_not_memory true unknown h z fault e is = absurd cc
rest_not_memory false true h z fault e is = absurd cc
rest_not_memory false false h z fault e is = absurd cc

not_memory : (v l : Bool) (rest : List ℕ) (h z : Bool) (fault : OpenFault) → tests v l (rest_fault rest) h z ≡ Some fault → fault ≢ Memory
not_memory true l rest h z fault e is = absurd cc
not_memory false true rest h z fault e is = absurd cc
not_memory false false [] true z fault e is = absurd cc
not_memory false false [] false true fault e is = absurd cc
not_memory false false [] false false fault e is = absurd cc
not_memory false false (kind ∷ []) h z fault e is = absurd cc
not_memory false false (kind ∷ n ∷ value) h z fault e is = rest_not_memory (ltb (length value) n) (not (eqb kind CAPABILITIES)) h z fault e is

pub fault_not_memory : (body : List ℕ) (fault : OpenFault) → open_fault body ≡ Some fault → fault ≢ Memory
unfolding open_fault
fault_not_memory body fault e = not_memory (not (eqb (version_of body) VERSION)) (not (eqb (length_of body) (length (parameters_of body)))) (pieces one_parameter (parameters_of body)).1 (is_short_hold (hold_of body)) (is_zero_id (id_of body)) fault e

no_value : (fault : OpenFault) (f : Option OpenFault) → f ≡ None → f ≡ Some fault → ⊥
no_value fault f n s = absurd cc

one_of_both : (body : List ℕ) → 10 ≤ length body → (f : Option OpenFault) → open_fault body ≡ f → HasValueOrFault body f
one_of_both body long None e = (no_fault-open body long e, λ o p. open-value o body p)
one_of_both body long (Some fault) e = (fault_not_memory body fault e, λ o p. no_value fault (open_fault body) (open-no_fault o body p) e)

pub value_or_fault : (body : List ℕ) → 10 ≤ length body → HasValueOrFault body (open_fault body)
value_or_fault body long = one_of_both body long (open_fault body) refl

pub fails_as : (fault : OpenFault) (reading : Result Open OpenFault) → reading ≡ Err fault → fault ≢ Memory → FailsAs fault reading
fails_as Version reading e known = e
fails_as Parameter reading e known = e
fails_as UnknownParameter reading e known = e
fails_as Hold reading e known = e
fails_as Identifier reading e known = e
fails_as Memory reading e known = absurd (known refl)
