-- Numbers of four octets are written as the octets that they were read from.
use Rattle.bgp_wire.proofs.Std.{◌≡◌, ℕ, suc, ◌-◌, ◌%◌, Bool, true, List, [], ◌∷◌, ◌++◌, length, take, map, None, refl, sym, ap, ap₂, ◌∙◌, arith, flat_map, w32, from_be_bytes, flat_map-map, be_bytes_4}
use Rattle.bgp_prefix.specs.declared.as_number.AsNumber.{AsNumber}
use Rattle.bgp_wire.specs.Prelude.{AreOctets}
use Rattle.bgp_wire.proofs.OctetLemmas.{AreOctets-take}
use Rattle.bgp_attr.specs.Prelude.{one_number, numbers_of, number_octets, row_octets, as_number}
use Rattle.bgp_attr.proofs.Readers.{four_first}
use Rattle.bgp_attr.proofs.NumberSteps.{number_then, no_number}

-- the length without an incomplete number at the end
abbrev whole : List ℕ → ℕ
whole b = length b - length b % 4

none : (b : List ℕ) → None ≡ one_number true b → [] ≡ row_octets true (numbers_of true b)
none b e = ap (row_octets true) (sym (no_number true b e))

pub four_octets : (b : List ℕ) → AreOctets b → take (whole b) b ≡ row_octets true (numbers_of true b)
unfolding one_number
four_octets [] octets = none [] refl
four_octets (x ∷ []) octets = none (x ∷ []) refl
four_octets (x ∷ y ∷ []) octets = none (x ∷ y ∷ []) refl
four_octets (x ∷ y ∷ z ∷ []) octets = none (x ∷ y ∷ z ∷ []) refl
four_octets (x ∷ y ∷ z ∷ w ∷ b) octets =
    let bs : List ℕ = x ∷ y ∷ z ∷ w ∷ [] in
    let n : ℕ = from_be_bytes w32 bs in
    let later : whole (x ∷ y ∷ z ∷ w ∷ b) ≡ suc (suc (suc (suc (whole b)))) = omega arith in
    ap (λ (k : ℕ). take k (x ∷ y ∷ z ∷ w ∷ b)) later
    ∙ ap₂ (λ (front rest : List ℕ). front ++ rest) (sym (be_bytes_4 bs n refl (AreOctets-take 4 (x ∷ y ∷ z ∷ w ∷ b) octets) refl)) (four_octets b (λ i. octets (suc (suc (suc (suc i))))))
    ∙ ap (row_octets true) (sym (number_then true (x ∷ y ∷ z ∷ w ∷ b) n b (sym (four_first x y z w b))))

-- the same for AS numbers
pub as_number_octets : (wide : Bool) (ns : List ℕ) → wide ≡ true → row_octets true ns ≡ flat_map (λ (n : AsNumber). number_octets wide n.0) (map as_number ns)
as_number_octets wide ns e = ap (λ (t : Bool). row_octets t ns) (sym e) ∙ sym (flat_map-map (λ (n : AsNumber). number_octets wide n.0) as_number ns)
