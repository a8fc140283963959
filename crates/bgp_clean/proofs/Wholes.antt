-- A header that is set before a body.
use Rattle.bgp_clean.proofs.Prelude.{◌≡◌, ℕ, ◌+◌, List, ◌++◌, length, take, drop, ap, ap₂, ◌∙◌, arith, length-append, length-drop, Kind, header}
use Rattle.bgp_wire.proofs.Std.{drop-append_seam, take-append_seam, take-append-le}

module _ (k : Kind) (old pad body : List ℕ) (nineteen : length pad ≡ 19) where
  abbrev laid : List ℕ
  laid = (old ++ pad) ++ body

  front : take (length old) laid ≡ old
  front = take-append-le (length old) (old ++ pad) body (omega (arith, length-append old pad)) ∙ take-append_seam old pad

  long : length (drop (length old) laid) ≡ 19 + length body
  long = length-drop (length old) laid ∙ omega (arith, length-append (old ++ pad) body, length-append old pad, nineteen)

  back : drop (length old + 19) laid ≡ body
  back = ap (λ (n : ℕ). drop n laid) (omega (arith, length-append old pad, nineteen)) ∙ drop-append_seam (old ++ pad) body

  -- the octets once the header is set
  pub header_laid : (start : ℕ) (w new : List ℕ) → start ≡ length old → w ≡ laid → new ≡ take start w ++ (header k (length (drop start w)) ++ drop (start + 19) w)
      → new ≡ old ++ (header k (19 + length body) ++ body)
  header_laid start w new at is e =
      e ∙ ap₂ (λ (n : ℕ) (x : List ℕ). take n x ++ (header k (length (drop n x)) ++ drop (n + 19) x)) at is
      ∙ ap₂ (λ (x y : List ℕ). x ++ (header k (length (drop (length old) laid)) ++ y)) front back
      ∙ ap (λ (n : ℕ). old ++ (header k n ++ body)) long
