-- A capability is read by its reader.
use Rattle.std.proofs.Common.{◌≡◌, ℕ, ◌<◌, List, [], ◌∷◌, ◌++◌, length, Option, Some, refl, sym, ap, ◌∙◌, arith}
use Rattle.bgp_wire.specs.Prelude.{◌>>=◌, Reads, first_octets}
use Rattle.bgp_wire.proofs.Firsts.{both_steps, first_octets-finds, first_octets-gives}
use Rattle.bgp_wire.proofs.Pieces.{found_same, found_not}
use Rattle.bgp_open.specs.declared.capability.Capability.{Capability}
use Rattle.bgp_open.specs.Prelude.{capability_of, IsCapability, one_capability}

finds : (c : Capability) (front back : List ℕ) → IsCapability c front → one_capability (front ++ back) ≡ Some (c, back)
unfolding one_capability
finds c front back p =
    ap (λ (x : List ℕ). one_capability (x ++ back)) p.octets
    ∙ rw (first_octets-finds p.value back, p.means) refl

-- the capability at the front of octets
abbrev in_front : List ℕ → Capability → Option (Capability × List ℕ)
in_front back c = Some (c, back)

gives : (b : List ℕ) (c : Capability) (after : List ℕ) → one_capability b ≡ Some (c, after) → (front : List ℕ) × (b ≡ front ++ after) × IsCapability c front
unfolding one_capability
gives [] c after e = absurd (found_not Capability (c, after) e)
gives (code ∷ []) c after e = absurd (found_not Capability (c, after) e)
gives (code ∷ n ∷ b) c after e =
    let cut = both_steps (first_octets n b) (λ (value : List ℕ × List ℕ). capability_of code value.0 >>= in_front value.1) (c, after) e in
    let value : List ℕ × List ℕ = cut.0 in
    let meant = both_steps (capability_of code value.0) (in_front value.1) (c, after) cut.2 in
    let front = first_octets-gives n b value.0 value.1 cut.1 in
    let same = found_same Capability (meant.0, value.1) (c, after) meant.2 in (
      code ∷ n ∷ value.0,
      ap (λ (x : List ℕ). code ∷ n ∷ x) (front.octets ∙ ap (λ (p : Capability × List ℕ). value.0 ++ p.1) same),
      record { code = code; value = value.0; octets = ap (λ (k : ℕ). code ∷ k ∷ value.0) (sym front.long); means = meant.1 ∙ ap (λ (p : Capability × List ℕ). Some p.0) same },
    )

not_empty : (b : List ℕ) (code n : ℕ) (value : List ℕ) → b ≡ code ∷ n ∷ value → 0 < length b
not_empty b code n value e = omega (arith, ap length e)

pub capability-reads : Reads IsCapability one_capability
capability-reads = record {
  not_empty = λ c b p. not_empty b p.code (length p.value) p.value p.octets;
  finds = finds;
  gives = gives;
}
