-- From a capability to those after it.
use Rattle.ristulva_c.proofs.Below.{◌≡◌, ℕ, ◌+◌, ◌-◌, ◌≤◌, List, [], ◌∷◌, ◌++◌, length, get_or, take, drop, Some, None, refl, sym, ap, ap₂, ◌∙◌, arith, CAPABILITIES, pieces, Capability, IsCapability, capability_of, one_capability, capabilities_of, one_parameter}
use Rattle.bgp_wire.proofs.Behinds.{pieces-whole}
use Rattle.bgp_open.proofs.Capabilities.{capability-reads}
use Rattle.bgp_open.proofs.Parameters.{parameter-reads}
use Rattle.bgp_open.proofs.CapabilityIters.{goes_on, is_over, begins, ends}
use Rattle.ristulva_c.specs.declared.capabilities.Capabilities.{Capabilities}
use Rattle.ristulva_c.specs.Prelude.{IsCapabilities, capabilities_left, IsGiven, between}
use Rattle.ristulva_c.specs.declared.capabilities.OpenCapability.{OpenCapability}
use Rattle.ristulva_c.proofs.Between.{fits, front_at, later_at, value_at}

pub begun_fits : (b : List ℕ) (old : Capabilities) (c : Capability) (rest : List ℕ) → IsCapabilities b old → Some (c, rest) ≡ one_capability (between b old.at old.stop)
    → old.at + 2 + length rest ≤ old.stop
begun_fits b old c rest lies e =
    let g = capability-reads.gives (between b old.at old.stop) c rest (sym e) in
    let within : old.stop ≤ length b = omega (arith, lies.before_end, lies.within) in
    omega (arith, fits b old.at old.stop _ g.0 rest lies.in_order within refl g.1, ap length g.2.octets)

pub later_fits : (b : List ℕ) (old : Capabilities) (cs : List Capability) (rest : List ℕ) → IsCapabilities b old → Some (cs, rest) ≡ one_parameter (between b old.stop old.end)
    → old.stop + 2 + length rest ≤ old.end
later_fits b old cs rest lies e =
    let g = parameter-reads.gives (between b old.stop old.end) cs rest (sym e) in
    omega (arith, fits b old.stop old.end _ g.0 rest lies.before_end lies.within refl g.1, ap length g.2.octets, ap length g.2.holds.octets)

-- the capability of the parameter that was begun
pub given : (b : List ℕ) (old : Capabilities) (c : Capability) (rest : List ℕ) (at : ℕ) → IsCapabilities b old → Some (c, rest) ≡ one_capability (between b old.at old.stop) → at + length rest ≡ old.stop
    → IsGiven b old (record { at = at; stop = old.stop; end = old.end }) (record { code = get_or (between b old.at old.stop) 0 0; value = record { at = old.at + 2; len = at - (old.at + 2) } })
given b old c rest at lies e behind =
    let front = between b old.at old.stop in
    let within : old.stop ≤ length b = omega (arith, lies.before_end, lies.within) in
    let g = capability-reads.gives front c rest (sym e) in
    let p = g.2 in
    let v = p.value in
    let n = 2 + length v in
    let is : front ≡ (p.code ∷ length v ∷ v) ++ rest = g.1 ∙ ap (λ (x : List ℕ). x ++ rest) p.octets in
    let here : at ≡ old.at + n = omega (arith, fits b old.at old.stop n (p.code ∷ length v ∷ v) rest lies.in_order within (omega arith) is, behind) in
    let long : at - (old.at + 2) ≡ length v = omega (arith, here) in
    let value : take (at - (old.at + 2)) (drop (old.at + 2) b) ≡ v = ap (λ (k : ℕ). take k (drop (old.at + 2) b)) long ∙ value_at b old.at old.stop (p.code ∷ length v ∷ []) v rest lies.in_order within is in
    let code : get_or front 0 0 ≡ p.code = ap (λ (x : List ℕ). get_or x 0 0) is in
    let later : between b at old.stop ≡ rest = ap (λ (k : ℕ). between b k old.stop) here ∙ later_at b old.at old.stop n (p.code ∷ length v ∷ v) rest lies.in_order within (omega arith) is in
    let start : old.at + 2 - 2 ≡ old.at = omega arith in
    let many : at - old.at ≡ n = omega (arith, here) in
    record {
      capability = c;
      means = ap₂ capability_of code value ∙ p.means;
      first = goes_on front (between b at old.stop) c (capabilities_of (between b old.stop old.end)) (ap (λ (x : List ℕ). Some (c, x)) later ∙ e);
      spelled = ap (λ (k : ℕ). take (at - k) (drop k b)) start ∙ ap (λ (k : ℕ). take k (drop old.at b)) many
          ∙ front_at b old.at old.stop n (p.code ∷ length v ∷ v) rest lies.in_order within (omega arith) is
          ∙ sym (ap₂ (λ (k m : ℕ). k ∷ m ∷ v) code long) ∙ sym (ap (λ (x : List ℕ). get_or front 0 0 ∷ (at - (old.at + 2)) ∷ x) value);
      behind = omega (arith, here);
      lies = record { in_order = omega (arith, behind); before_end = lies.before_end; within = lies.within };
      same = refl;
    }

-- the parameter that was begun has no more, and the next one begins
pub passes : (b : List ℕ) (old : Capabilities) (cs : List Capability) (rest : List ℕ) (stop : ℕ) → IsCapabilities b old → one_capability (between b old.at old.stop) ≡ None
    → Some (cs, rest) ≡ one_parameter (between b old.stop old.end) → stop + length rest ≡ old.end
    → IsCapabilities b (record { at = old.stop + 2; stop = stop; end = old.end })
    × (capabilities_left b (record { at = old.stop + 2; stop = stop; end = old.end }) ≡ capabilities_left b old)
passes b old cs rest stop lies none e behind =
    let later = between b old.stop old.end in
    let g = parameter-reads.gives later cs rest (sym e) in
    let row = g.2.holds.row in
    let n = 2 + length row in
    let front = CAPABILITIES ∷ length row ∷ row in
    let is : later ≡ front ++ rest = g.1 ∙ ap (λ (x : List ℕ). x ++ rest) (g.2.octets ∙ ap (λ (x : List ℕ). CAPABILITIES ∷ x) g.2.holds.octets) in
    let here : stop ≡ old.stop + n = omega (arith, fits b old.stop old.end n front rest lies.before_end lies.within (omega arith) is, behind) in
    let value : between b (old.stop + 2) stop ≡ row =
    ap (λ (k : ℕ). take k (drop (old.stop + 2) b)) (let l : stop - (old.stop + 2) ≡ length row = omega (arith, here) in l)
    ∙ value_at b old.stop old.end (CAPABILITIES ∷ length row ∷ []) row rest lies.before_end lies.within is in
    let after : between b stop old.end ≡ rest = ap (λ (k : ℕ). between b k old.end) here ∙ later_at b old.stop old.end n front rest lies.before_end lies.within (omega arith) is in
    let caps : (pieces one_capability row).0 ≡ cs = ap (λ (q : List Capability × List ℕ). q.0) (pieces-whole Capability IsCapability one_capability capability-reads cs row g.2.holds.spelled) in (
      record { in_order = omega (arith, here); before_end = omega (arith, behind); within = lies.within },
      ap₂ (λ (x y : List ℕ). (pieces one_capability x).0 ++ capabilities_of y) value after ∙ ap (λ (x : List Capability). x ++ capabilities_of rest) caps
          ∙ sym (is_over (between b old.at old.stop) (capabilities_of later) (sym none) ∙ begins later rest cs e),
    )

-- nothing remains
pub none_left : (b : List ℕ) (old : Capabilities) → one_capability (between b old.at old.stop) ≡ None → one_parameter (between b old.stop old.end) ≡ None → capabilities_left b old ≡ []
none_left b old none over =
    is_over (between b old.at old.stop) (capabilities_of (between b old.stop old.end)) (sym none) ∙ ends (between b old.stop old.end) (sym over)

-- what a cursor gives after it moved over parameters is what the cursor before gives
pub given_before : (b : List ℕ) (first old new : Capabilities) (out : OpenCapability) → capabilities_left b old ≡ capabilities_left b first → old.end ≡ first.end
    → IsGiven b old new out → IsGiven b first new out
given_before b first old new out left end g = record {
  capability = g.capability;
  means = g.means;
  first = sym left ∙ g.first;
  spelled = g.spelled;
  behind = g.behind;
  lies = g.lies;
  same = g.same ∙ end;
}
