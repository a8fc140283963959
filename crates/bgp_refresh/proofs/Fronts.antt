-- A message is cut where a NOTIFICATION has no more room.
use Rattle.bgp_wire.proofs.Std.{◌≡◌, ℕ, ◌+◌, min, List, ◌++◌, length, take, sym, ap, ◌∙◌, arith, inl, inr, cases_lt}
use Rattle.std.proofs.lemmas.List.{take_all}
use Rattle.std.proofs.Math.Seq.{take-append-add}
use Rattle.bgp_refresh.specs.Prelude.{refresh_header}

take_front : (n : ℕ) (body : List ℕ) → take (min (length body) n) body ≡ take n body
take_front n body =
    elim (cases_lt (length body) n) [
      | inl short ↦ take_all (min (length body) n) body (omega arith) ∙ sym (take_all n body (omega arith))
      | inr long ↦ let is : min (length body) n ≡ n = omega arith in ap (λ (k : ℕ). take k body) is
    ]

pub cut_message : (body : List ℕ) → refresh_header (19 + length body) ++ take (min (length body) 4056) body ≡ take 4075 (refresh_header (19 + length body) ++ body)
cut_message body =
    ap (λ (b : List ℕ). refresh_header (19 + length body) ++ b) (take_front 4056 body) ∙ sym (take-append-add (refresh_header (19 + length body)) body 4056)
