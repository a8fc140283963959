-- Ranges of a buffer that is written to.
use Rattle.bgp_guard.proofs.Prelude.{◌≡◌, ℕ, ◌+◌, ◌-◌, ◌≤◌, List, ◌++◌, length, take, drop, sym, ap, ◌∙◌, arith, slice_range, drop-take, drop-append-le}
use Rattle.bgp_guard.proofs.Prelude.{take-append-add, take-append_seam, drop-drop, length-take, length-drop}

pub less_front : (n start end : ℕ) (xs : List ℕ) → n ≤ end - start → slice_range xs (start + n) end ≡ drop n (slice_range xs start end)
less_front n start end xs within =
    let count : end - start ≡ n + (end - (start + n)) = omega (arith, within) in
    sym (ap (λ (m : ℕ). drop n (take m (drop start xs))) count ∙ drop-take n (end - (start + n)) (drop start xs)
    ∙ ap (take (end - (start + n))) (drop-drop n start xs))

-- octets that are written from `end` on follow those before it
pub written_behind : (start end : ℕ) (room octets rest : List ℕ) → start ≤ end → end ≤ length room
    → slice_range (take end room ++ (octets ++ rest)) start (end + length octets) ≡ slice_range room start end ++ octets
written_behind start end room octets rest order within =
    let front : List ℕ = take end room in
    let len : length front ≡ end = omega (arith, length-take end room, within) in
    let moved : drop start (front ++ (octets ++ rest)) ≡ drop start front ++ (octets ++ rest) = drop-append-le start front (octets ++ rest) (omega (arith, len, order)) in
    let inside : drop start front ≡ slice_range room start end =
    ap (λ (m : ℕ). drop start (take m room)) (let e : end ≡ start + (end - start) = omega (arith, order) in e) ∙ drop-take start (end - start) room in
    let count : end + length octets - start ≡ length (drop start front) + length octets = omega (arith, length-drop start front, len, order) in
    ap (take (end + length octets - start)) moved
    ∙ ap (λ (m : ℕ). take m (drop start front ++ (octets ++ rest))) count
    ∙ take-append-add (drop start front) (octets ++ rest) (length octets)
    ∙ ap (λ (xs : List ℕ). drop start front ++ xs) (take-append_seam octets rest)
    ∙ ap (λ (xs : List ℕ). xs ++ octets) inside
