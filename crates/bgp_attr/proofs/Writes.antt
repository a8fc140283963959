-- A segment that is written.
use Rattle.bgp_wire.proofs.Std.{◌≡◌, ℕ, ◌+◌, ◌≤◌, Bool, List, [], ◌∷◌, ◌++◌, length, sym, ap, ◌∙◌, append_assoc, arith, flat_map, flat_map-map}
use Rattle.bgp_prefix.specs.declared.as_number.AsNumber.{AsNumber}
use Rattle.bgp_attr.specs.declared.path.Segment.{Segment}
use Rattle.bgp_attr.specs.Prelude.{number_octets, segment_code, segment_octets}
use Rattle.bgp_attr.proofs.NumberRows.{number_of}

-- a segment's type and count, and then its numbers
pub segment_written : (wide : Bool) (s : Segment) (numbers : List AsNumber) (old head new : List ℕ) → numbers ≡ s.numbers → head ≡ old ++ segment_code s.kind ∷ length s.numbers ∷ []
    → new ≡ head ++ flat_map (λ (n : AsNumber). number_octets wide n.0) numbers → new ≡ old ++ segment_octets wide s
segment_written wide s numbers old head new are e f =
    f ∙ ap (λ (ns : List AsNumber). head ++ flat_map (λ (n : AsNumber). number_octets wide n.0) ns) are
    ∙ ap (λ (b : List ℕ). b ++ flat_map (λ (n : AsNumber). number_octets wide n.0) s.numbers) e
    ∙ append_assoc old (segment_code s.kind ∷ length s.numbers ∷ []) (flat_map (λ (n : AsNumber). number_octets wide n.0) s.numbers)
    ∙ ap (λ (b : List ℕ). old ++ segment_code s.kind ∷ length s.numbers ∷ b) (sym (flat_map-map (number_octets wide) number_of s.numbers))

pub segment_fits : (wide : Bool) (s : Segment) → 2 + length (flat_map (λ (n : AsNumber). number_octets wide n.0) s.numbers) ≤ length (segment_octets wide s)
segment_fits wide s = omega (arith, ap length (flat_map-map (number_octets wide) number_of s.numbers))
