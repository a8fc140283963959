-- The two length fields of a body, set when its parts are written.
use Rattle.bgp_wire.proofs.Std.{◌≡◌, ℕ, ◌+◌, ◌-◌, ◌≤◌, List, ◌∷◌, ◌++◌, length, take, drop, sym, ap, ap₂, ◌∙◌, append_assoc, arith, w16, to_be_bytes, take-append_seam, drop-append-add}
use Rattle.std.proofs.lemmas.List.{length-append}
use Rattle.bgp_update.specs.declared.laying.Places.{Places}
use Rattle.bgp_update.specs.Prelude.{body_octets, LaysOut}

-- a number written into the room for it
set_in : (at len : ℕ) (front back l new : List ℕ) → at ≡ length front → l ≡ front ++ 0 ∷ 0 ∷ back → new ≡ take at l ++ (to_be_bytes w16 len ++ drop (at + 2) l)
    → new ≡ front ++ (to_be_bytes w16 len ++ back)
set_in at len front back l new at_is l_is set =
    set ∙ ap₂ (λ (n : ℕ) (x : List ℕ). take n x ++ (to_be_bytes w16 len ++ drop (n + 2) x)) at_is l_is
    ∙ ap₂ (λ (a b : List ℕ). a ++ (to_be_bytes w16 len ++ b)) (take-append_seam front (0 ∷ 0 ∷ back)) (drop-append-add front (0 ∷ 0 ∷ back) 2)

pub both_set : (withdrawn attributes nlri old : List ℕ) (start first second : ℕ) (p : Places) (there mid new : List ℕ) → LaysOut withdrawn attributes nlri start old there p
    → first ≡ p.attributes - (start + 2) → second ≡ p.nlri - (p.attributes + 2)
    → mid ≡ take start there ++ (to_be_bytes w16 first ++ drop (start + 2) there)
    → new ≡ take p.attributes mid ++ (to_be_bytes w16 second ++ drop (p.attributes + 2) mid) → new ≡ old ++ body_octets withdrawn attributes nlri
both_set w a n old start first second p there mid new laid first_is second_is set_first set_second =
    let one : first ≡ length w = omega (arith, first_is, laid.second) in
    let two : second ≡ length a = omega (arith, second_is, laid.third) in
    let front : List ℕ = old ++ (to_be_bytes w16 first ++ w) in
    let begun : mid ≡ front ++ 0 ∷ 0 ∷ (a ++ n) =
    set_in start first old (w ++ (0 ∷ 0 ∷ (a ++ n))) there mid laid.first laid.whole set_first
    ∙ ap (λ (x : List ℕ). old ++ x) (sym (append_assoc (to_be_bytes w16 first) w (0 ∷ 0 ∷ (a ++ n))))
    ∙ sym (append_assoc old (to_be_bytes w16 first ++ w) (0 ∷ 0 ∷ (a ++ n))) in
    let long : p.attributes ≡ length front = omega (arith, laid.second, laid.first, length-append old (to_be_bytes w16 first ++ w), length-append (to_be_bytes w16 first) w) in
    set_in p.attributes second front (a ++ n) mid new long begun set_second
    ∙ append_assoc old (to_be_bytes w16 first ++ w) (to_be_bytes w16 second ++ (a ++ n))
    ∙ ap (λ (x : List ℕ). old ++ x) (append_assoc (to_be_bytes w16 first) w (to_be_bytes w16 second ++ (a ++ n)))
    ∙ ap₂ (λ (k m : ℕ). old ++ (to_be_bytes w16 k ++ (w ++ (to_be_bytes w16 m ++ (a ++ n))))) one two

-- the third part is within the body
pub third_within : (withdrawn attributes nlri : List ℕ) (start : ℕ) (old new : List ℕ) (p : Places) → LaysOut withdrawn attributes nlri start old new p → p.nlri ≤ length new
third_within w a n start old new p laid =
    omega (arith, ap length laid.whole, length-append old (0 ∷ 0 ∷ (w ++ (0 ∷ 0 ∷ (a ++ n)))), length-append w (0 ∷ 0 ∷ (a ++ n)), length-append a n, laid.first, laid.second, laid.third)
