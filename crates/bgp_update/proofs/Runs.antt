-- Whether octets are only IPv4 prefixes.
use Rattle.bgp_wire.proofs.Std.{◌≡◌, ℕ, Bool, true, false, eqb, List, [], ◌∷◌, length, refl, sym, IsTrue}
use Rattle.std.proofs.Math.Dec.{eqb-suc-zero}
use Rattle.std.proofs.lemmas.Bool.{true≢false}
use Rattle.bgp_prefix.specs.Prelude.{run_of}

pub rest_test : (rest : List ℕ) (t : Bool) → (IsTrue t → rest ≡ []) → (rest ≡ [] → IsTrue t) → eqb (length rest) 0 ≡ t
rest_test [] true only all = refl
rest_test [] false only all = absurd (true≢false (sym (all refl)))
rest_test (x ∷ rest) true only all = absurd (not_nil x rest (only refl))
  where
    not_nil : (x : ℕ) (rest : List ℕ) → x ∷ rest ≡ [] → ⊥
    not_nil x rest e = absurd cc
rest_test (x ∷ rest) false only all = eqb-suc-zero (length rest)

-- from the result of a check of a run
pub run_test : (b : List ℕ) (t : Bool) → (IsTrue t → (run_of 4 b).1 ≡ []) × ((run_of 4 b).1 ≡ [] → IsTrue t) → eqb (length (run_of 4 b).1) 0 ≡ t
run_test b t both = rest_test (run_of 4 b).1 t both.0 both.1
