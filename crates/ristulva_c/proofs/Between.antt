-- The octets from one offset to another.
use Rattle.ristulva_c.proofs.Below.{◌≡◌, ℕ, ◌+◌, ◌-◌, ◌≤◌, List, ◌∷◌, ◌++◌, length, take, drop, Option, Some, refl, sym, ap, ◌∙◌, arith, length-drop, drop-take, take-take, take_at, drop_at, drop-drop, length-take, length-append, Reads, pieces, first_then}
use Rattle.ristulva_c.specs.Prelude.{between}

pub length_between : (b : List ℕ) (at end : ℕ) → at ≤ end → end ≤ length b → length (between b at end) + at ≡ end
length_between b at end order within = omega (arith, length-take (end - at) (drop at b), length-drop at b)

pub between_later : (b : List ℕ) (at n end : ℕ) → at ≤ n → n ≤ end → drop (n - at) (between b at end) ≡ between b n end
between_later b at n end first last =
    let parts : end - at ≡ (n - at) + (end - n) = omega arith in
    let whole : at + (n - at) ≡ n = omega arith in
    ap (λ (k : ℕ). drop (n - at) (take k (drop at b))) parts ∙ drop-take (n - at) (end - n) (drop at b)
    ∙ ap (take (end - n)) (drop-drop (n - at) at b ∙ ap (λ (k : ℕ). drop k b) whole)

-- n octets, and others after them
module _ (b : List ℕ) (at end n : ℕ) (front rest : List ℕ) (order : at ≤ end) (within : end ≤ length b) (long : length front ≡ n) (is : between b at end ≡ front ++ rest) where
  pub fits : at + n + length rest ≡ end
  fits = omega (arith, length_between b at end order within, ap length is, length-append front rest, long)

  pub front_at : take n (drop at b) ≡ front
  front_at = sym (take-take n (end - at) (drop at b) (omega (arith, fits))) ∙ ap (take n) is ∙ take_at front rest n long

  pub later_at : between b (at + n) end ≡ rest
  later_at =
      sym (between_later b at (at + n) end (omega arith) (omega (arith, fits)))
      ∙ ap (λ (k : ℕ). drop k (between b at end)) (let e : (at + n) - at ≡ n = omega arith in e)
      ∙ ap (drop n) is ∙ drop_at front rest n long

-- a value after a head
pub value_at : (b : List ℕ) (at end : ℕ) (head value rest : List ℕ) → at ≤ end → end ≤ length b → between b at end ≡ (head ++ value) ++ rest → take (length value) (drop (at + length head) b) ≡ value
value_at b at end head value rest order within is =
    ap (take (length value)) (sym (drop-drop (length head) at b)) ∙ sym (drop-take (length head) (length value) (drop at b))
    ∙ ap (drop (length head)) (front_at b at end (length head + length value) (head ++ value) rest order within (length-append head value) is)
    ∙ drop_at head value (length head) refl

-- a piece that a reader finds, and the pieces of what follows it
module _ (A : Type 0) (R : A → List ℕ → Type 0) (one : List ℕ → Option (A × List ℕ)) (reads : Reads R one) (b : List ℕ) (at end : ℕ) (v : A) (rest : List ℕ)
    (order : at ≤ end) (within : end ≤ length b) (e : Some (v, rest) ≡ one (between b at end)) where
  abbrev found : (front : List ℕ) × (between b at end ≡ front ++ rest) × R v front
  found = reads.gives (between b at end) v rest (sym e)

  pub rest_fits : at + length found.0 + length rest ≡ end
  rest_fits = fits b at end (length found.0) found.0 rest order within refl found.1

  pub pieces_behind : (next : ℕ) → next + length rest ≡ end → (pieces one (between b at end)).0 ≡ v ∷ (pieces one (between b next end)).0
  pieces_behind next behind =
      let here : at + length found.0 ≡ next = omega (arith, rest_fits, behind) in
      first_then A R one reads (between b at end) v rest e
      ∙ ap (λ (x : List ℕ). v ∷ (pieces one x).0) (sym (later_at b at end (length found.0) found.0 rest order within refl found.1) ∙ ap (λ (k : ℕ). between b k end) here)
