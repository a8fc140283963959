-- The written form of an OPEN spells it.
use Rattle.bgp_wire.proofs.Std.{◌≡◌, ◌≢◌, ℕ, ◌<◌, ◌^◌, false, ◌||◌, eqb, ltb, Some, List, [], ◌∷◌, ◌++◌, length, refl, sym, ap, subst, arith, list_any, AllByRecursion, w16, w32, to_be_bytes, or_parts, from_be_bytes-to_be_bytes_2, from_be_bytes-to_be_bytes_4}
use Rattle.std.proofs.lemmas.List.{append-nil, length-append}
use Rattle.bgp_wire.specs.Prelude.{Row}
use Rattle.bgp_wire.proofs.Rows.{Row-one}
use Rattle.bgp_numbers.specs.declared.parameter.TheConstants.{CAPABILITIES}
use Rattle.bgp_numbers.specs.declared.capability.TheConstants.{MULTIPROTOCOL, FOUR_OCTET_AS}
use Rattle.bgp_open.specs.declared.capability.Capability.{Capability}
use Rattle.bgp_open.specs.declared.capability.Capability.TheVariants.{Multi, As4, Other}
use Rattle.bgp_open.specs.declared.message.Open.{Open}
use Rattle.bgp_open.specs.Prelude.{IsCapability, IsParameter, IsHold, zero_id, is_short_hold, is_zero_id, joined, IsOpen, capability_octets, row_octets, parameter_octets, body_octets, canonical, is_misnamed, is_bad_row, is_bad, HasRange, HasRanges}
use Rattle.bgp_open.proofs.Capabilities.{capability-reads}
use Rattle.bgp_open.proofs.Readings.{hold-short, id-zero}

-- no octets hold no capabilities
no_caps : (caps : List Capability) (row : List ℕ) → row ≡ [] → Row IsCapability caps row → caps ≡ []
no_caps [] row nil p = refl
no_caps (c ∷ caps) row nil p =
    let some : 0 < length p.0 = capability-reads.not_empty c p.0 p.3 in
    absurd (omega (arith, length-append p.0 p.1, ap length p.2, ap length nil))

-- the parameters of a row: one, or none
record Held (caps : List Capability) (b : List ℕ) : Type 0 where
  parameters : List (List Capability)
  row : Row IsParameter parameters b
  caps_are : caps ≡ joined parameters

held : (caps : List Capability) (row : List ℕ) → Row IsCapability caps row → Held caps (parameter_octets row)
held caps [] p = record { parameters = []; row = refl; caps_are = no_caps caps [] refl p }
held caps (x ∷ row) p = record {
  parameters = caps ∷ [];
  row = Row-one IsParameter caps (CAPABILITIES ∷ length (x ∷ row) ∷ x ∷ row) (record { value = length (x ∷ row) ∷ x ∷ row; octets = refl; holds = record { row = x ∷ row; octets = refl; spelled = p } });
  caps_are = sym (append-nil caps);
}

quad-spells : (as_field hold a b c d : ℕ) (caps : List Capability) (row : List ℕ) → as_field < 2 ^ 16 → hold < 2 ^ 16 → IsHold hold → (a ∷ b ∷ c ∷ d ∷ []) ≢ zero_id → Row IsCapability caps row
    → IsOpen (record { as_field = as_field; hold = hold; id = a ∷ b ∷ c ∷ d ∷ []; caps = caps }) (body_octets as_field hold (a ∷ b ∷ c ∷ d ∷ []) row)
quad-spells as_field hold a b c d caps row small_as small_hold allowed given p =
    let h = held caps row p in
    record {
      fixed = omega arith;
      version = refl;
      as_field = sym (from_be_bytes-to_be_bytes_2 as_field small_as);
      hold = sym (from_be_bytes-to_be_bytes_2 hold small_hold);
      hold_allowed = allowed;
      id = refl;
      id_allowed = given;
      counted = refl;
      parameters = h.parameters;
      row = h.row;
      caps = h.caps_are;
    }

body-spells : (as_field hold : ℕ) (id : List ℕ) (caps : List Capability) (row : List ℕ) → as_field < 2 ^ 16 → hold < 2 ^ 16 → length id ≡ 4 → IsHold hold → id ≢ zero_id → Row IsCapability caps row
    → IsOpen (record { as_field = as_field; hold = hold; id = id; caps = caps }) (body_octets as_field hold id row)
body-spells as_field hold (a ∷ b ∷ c ∷ d ∷ []) caps row small_as small_hold four allowed given p = quad-spells as_field hold a b c d caps row small_as small_hold allowed given p
body-spells as_field hold [] caps row small_as small_hold four allowed given p = absurd (omega arith)
body-spells as_field hold (a ∷ []) caps row small_as small_hold four allowed given p = absurd (omega arith)
body-spells as_field hold (a ∷ b ∷ []) caps row small_as small_hold four allowed given p = absurd (omega arith)
body-spells as_field hold (a ∷ b ∷ c ∷ []) caps row small_as small_hold four allowed given p = absurd (omega arith)
body-spells as_field hold (a ∷ b ∷ c ∷ d ∷ e ∷ id) caps row small_as small_hold four allowed given p = absurd (omega arith)

pub canonical-spells : (o : Open) (caps : List Capability) (row : List ℕ) → o.as_field < 2 ^ 16 → o.hold < 2 ^ 16 → length o.id ≡ 4 → is_short_hold o.hold ≡ false → is_zero_id o.id ≡ false
    → caps ≡ o.caps → row ≡ row_octets caps → Row IsCapability caps row → IsOpen o (canonical o)
canonical-spells o caps row small_as small_hold four allowed given are is p =
    let spelled = subst (λ (cs : List Capability). Row IsCapability cs (row_octets cs)) are (subst (λ (r : List ℕ). Row IsCapability caps r) is p) in
    body-spells o.as_field o.hold o.id o.caps (row_octets o.caps) small_as small_hold four (hold-short o.hold allowed) (id-zero o.id given) spelled

-- ---- capabilities within their fields

capability-spells : (c : Capability) → HasRange c → is_misnamed c ≡ false → IsCapability c (capability_octets c)
capability-spells (Multi family subsequent) small name = record {
  code = MULTIPROTOCOL;
  value = to_be_bytes w16 family ++ (0 ∷ subsequent ∷ []);
  octets = refl;
  means = ap (λ (n : ℕ). Some (Multi n subsequent)) (from_be_bytes-to_be_bytes_2 family small.0);
}
capability-spells (As4 number) small name = record {
  code = FOUR_OCTET_AS;
  value = to_be_bytes w32 number;
  octets = refl;
  means = ap (λ (n : ℕ). Some (As4 n)) (from_be_bytes-to_be_bytes_4 number small);
}
capability-spells (Other code value) small name =
    let other = or_parts (eqb code MULTIPROTOCOL) (eqb code FOUR_OCTET_AS) name in
    record { code = code; value = value; octets = refl; means = rw (other.0, other.1) refl }

pub ranges-spell : (caps : List Capability) → AllByRecursion HasRange caps → list_any is_misnamed caps ≡ false → Row IsCapability caps (row_octets caps)
ranges-spell [] small names = refl
ranges-spell (c ∷ caps) small names =
    let other = or_parts (is_misnamed c) (list_any is_misnamed caps) names in
    (capability_octets c, row_octets caps, refl, capability-spells c small.0 other.0, ranges-spell caps small.1 other.1)

-- an OPEN that isn't bad is spelled by its written form
pub good-spells : (o : Open) → HasRanges o → is_bad o ≡ false → IsOpen o (canonical o)
good-spells o small good =
    let hold = or_parts (is_short_hold o.hold) (is_zero_id o.id || is_bad_row o.caps) good in
    let id = or_parts (is_zero_id o.id) (is_bad_row o.caps) hold.1 in
    let names = or_parts (ltb 253 (length (row_octets o.caps))) (list_any is_misnamed o.caps) id.1 in
    canonical-spells o o.caps (row_octets o.caps) small.as_field small.hold small.id hold.0 id.0 refl refl (ranges-spell o.caps small.caps names.1)
