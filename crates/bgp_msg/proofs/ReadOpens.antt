-- An OPEN that was read can be written, and is no longer than what was read.
use Rattle.bgp_wire.proofs.Std.{◌≡◌, ℕ, suc, ◌+◌, ◌≤◌, Bool, true, false, ◌||◌, cond, eqb, ltb, List, [], ◌∷◌, ◌++◌, length, Option, Some, refl, sym, ap, subst, ◌∙◌, arith, list_any, or_from, le-ltb, list_any-append}
use Rattle.std.proofs.lemmas.Grind.{flat_map-append}
use Rattle.std.proofs.lemmas.List.{length-append, length-drop}
use Rattle.std.proofs.lemmas.Option.{same_Some, none-some}
use Rattle.bgp_wire.specs.Prelude.{AreOctets, Row}
use Rattle.bgp_numbers.specs.declared.capability.TheConstants.{MULTIPROTOCOL, FOUR_OCTET_AS}
use Rattle.bgp_open.specs.declared.capability.Capability.{Capability}
use Rattle.bgp_open.specs.declared.capability.Capability.TheVariants.{Other}
use Rattle.bgp_open.specs.declared.message.Open.{Open}
use Rattle.bgp_open.specs.Prelude.{multi_of, as4_of, IsCapability, IsParameter, is_short_hold, is_zero_id, parameters_of, joined, IsOpen, capability_octets, row_octets, parameter_octets, canonical, is_misnamed, is_bad_row, is_bad}
use Rattle.bgp_open.proofs.Readings.{short-hold, zero-id}

-- ---- one capability

-- it is written with the same length, and under its own code
abbrev IsAlike : Capability → ℕ → Type 0
IsAlike c n = (length (capability_octets c) ≡ suc (suc n)) × (is_misnamed c ≡ false)

abbrev one : Capability → Option Capability
one c = Some c

multi-alike : (value : List ℕ) (c : Capability) → multi_of value ≡ Some c → IsAlike c (length value)
multi-alike (high ∷ low ∷ reserved ∷ subsequent ∷ []) c e = subst (λ (d : Capability). IsAlike d 4) (same_Some _ c e) (refl, refl)
multi-alike [] c e = absurd (none-some c e)
multi-alike (a ∷ []) c e = absurd (none-some c e)
multi-alike (a ∷ b ∷ []) c e = absurd (none-some c e)
multi-alike (a ∷ b ∷ d ∷ []) c e = absurd (none-some c e)
multi-alike (a ∷ b ∷ d ∷ f ∷ g ∷ more) c e = absurd (none-some c e)

as4-alike : (value : List ℕ) (c : Capability) → as4_of value ≡ Some c → IsAlike c (length value)
as4-alike (x ∷ y ∷ z ∷ w ∷ []) c e = subst (λ (d : Capability). IsAlike d 4) (same_Some _ c e) (refl, refl)
as4-alike [] c e = absurd (none-some c e)
as4-alike (a ∷ []) c e = absurd (none-some c e)
as4-alike (a ∷ b ∷ []) c e = absurd (none-some c e)
as4-alike (a ∷ b ∷ d ∷ []) c e = absurd (none-some c e)
as4-alike (a ∷ b ∷ d ∷ f ∷ g ∷ more) c e = absurd (none-some c e)

alike-by : (code : ℕ) (value : List ℕ) (c : Capability) (t u : Bool) → eqb code MULTIPROTOCOL ≡ t → eqb code FOUR_OCTET_AS ≡ u → cond t (multi_of value) (cond u (as4_of value) (one (Other code value))) ≡ Some c → IsAlike c (length value)
alike-by code value c true u e f is = multi-alike value c is
alike-by code value c false true e f is = as4-alike value c is
alike-by code value c false false e f is = subst (λ (d : Capability). IsAlike d (length value)) (same_Some (Other code value) c is) (refl, or_from (eqb code MULTIPROTOCOL) (eqb code FOUR_OCTET_AS) e f)

capability-alike : (c : Capability) (b : List ℕ) → IsCapability c b → (length (capability_octets c) ≡ length b) × (is_misnamed c ≡ false)
capability-alike c b s =
    let alike = alike-by s.code s.value c (eqb s.code MULTIPROTOCOL) (eqb s.code FOUR_OCTET_AS) refl refl s.means in
    (alike.0 ∙ sym (ap length s.octets), alike.1)

-- ---- rows

row-alike : (caps : List Capability) (b : List ℕ) → Row IsCapability caps b → (length (row_octets caps) ≡ length b) × (list_any is_misnamed caps ≡ false)
row-alike [] b row = (sym (ap length row), refl)
row-alike (c ∷ caps) b row =
    let one_more = capability-alike c row.0 row.3 in
    let rest = row-alike caps row.1 row.4 in
    (omega (arith, length-append (capability_octets c) (row_octets caps), one_more.0, rest.0, ap length row.2, length-append row.0 row.1), or_from (is_misnamed c) (list_any is_misnamed caps) one_more.1 rest.1)

-- each parameter has a header of two octets
record Fits (ps : List (List Capability)) (n : ℕ) : Type 0 where
  shorter : length (row_octets (joined ps)) + (length ps + length ps) ≤ n
  named : list_any is_misnamed (joined ps) ≡ false

parameters-fit : (ps : List (List Capability)) (b : List ℕ) → Row IsParameter ps b → Fits ps (length b)
parameters-fit [] b row = record { shorter = omega arith; named = refl }
parameters-fit (p ∷ ps) b row =
    let parameter = row.3 in
    let held = parameter.holds in
    let first = row-alike p held.row held.spelled in
    let rest = parameters-fit ps row.1 row.4 in
    let size : length row.0 ≡ 2 + length held.row = omega (arith, ap length parameter.octets, ap length held.octets) in
    let both : length (row_octets (p ++ joined ps)) ≡ length (row_octets p) + length (row_octets (joined ps)) =
    ap length (flat_map-append capability_octets p (joined ps)) ∙ length-append (row_octets p) (row_octets (joined ps)) in
    record {
      shorter = omega (arith, both, first.0, rest.shorter, size, ap length row.2, length-append row.0 row.1);
      named = list_any-append is_misnamed p (joined ps) ∙ or_from (list_any is_misnamed p) (list_any is_misnamed (joined ps)) first.1 rest.named;
    }

parameter-short : (row : List ℕ) (n : ℕ) → 2 + length row ≤ n → length (parameter_octets row) ≤ n
parameter-short [] n le = omega arith
parameter-short (x ∷ row) n le = omega arith

one_parameter : (ps : List (List Capability)) (n : ℕ) → length (row_octets (joined ps)) + (length ps + length ps) ≤ n → length (parameter_octets (row_octets (joined ps))) ≤ n
one_parameter [] n le = omega arith
one_parameter (p ∷ ps) n le = parameter-short (row_octets (joined (p ∷ ps))) n (omega arith)

few : (ps : List (List Capability)) (n : ℕ) → length (row_octets (joined ps)) + (length ps + length ps) ≤ n → n ≤ 255 → length (row_octets (joined ps)) ≤ 253
few [] n le small = omega arith
few (p ∷ ps) n le small = omega arith

-- ---- the OPEN

module _ (o : Open) (body : List ℕ) (octets : AreOctets body) (s : IsOpen o body) where
  counted_small : length (parameters_of body) ≤ 255
  counted_small = omega (arith, s.counted, octets 9)

  fit : Fits s.parameters (length (parameters_of body))
  fit = parameters-fit s.parameters (parameters_of body) s.row

  good_row : is_bad_row o.caps ≡ false
  good_row =
      subst (λ (caps : List Capability). is_bad_row caps ≡ false) (sym s.caps)
      (or_from (ltb 253 (length (row_octets (joined s.parameters)))) (list_any is_misnamed (joined s.parameters)) (le-ltb _ _ (few s.parameters (length (parameters_of body)) fit.shorter counted_small)) fit.named)

  pub read-good : is_bad o ≡ false
  read-good =
      or_from (is_short_hold o.hold) (is_zero_id o.id || is_bad_row o.caps) (short-hold o.hold s.hold_allowed)
      (or_from (is_zero_id o.id) (is_bad_row o.caps) (ap is_zero_id s.id ∙ zero-id _ _ _ _ (λ e. s.id_allowed (s.id ∙ e))) good_row)

  pub read-short : length (canonical o) ≤ length body
  read-short =
      let row : List ℕ = row_octets o.caps in
      let parameters : length (parameter_octets row) ≤ length (parameters_of body) =
      subst (λ (caps : List Capability). length (parameter_octets (row_octets caps)) ≤ length (parameters_of body)) (sym s.caps) (one_parameter s.parameters (length (parameters_of body)) fit.shorter) in
      omega (arith, parameters, length-append o.id (length (parameter_octets row) ∷ parameter_octets row), ap length s.id, length-drop 10 body, s.fixed)
