-- Whether octets are prefixes alone, as a test.
use Rattle.bgp_wire.proofs.Std.{◌≡◌, ℕ, Bool, true, false, not, eqb, List, [], ◌∷◌, length, refl, sym, ap, IsTrue}
use Rattle.std.proofs.lemmas.Bool.{true≢false}
use Rattle.std.proofs.Math.Dec.{eqb-suc-zero}
use Rattle.bgp_prefix.specs.Prelude.{run_of}
use Rattle.bgp_attr.specs.Prelude.{has_bad_prefix}

rest_test : (t : Bool) (rest : List ℕ) → (IsTrue t → rest ≡ []) → (rest ≡ [] → IsTrue t) → not t ≡ not (eqb (length rest) 0)
rest_test true rest only all = ap (λ (r : List ℕ). not (eqb (length r) 0)) (sym (only refl))
rest_test false [] only all = absurd (true≢false (sym (all refl)))
rest_test false (x ∷ rest) only all = ap not (sym (eqb-suc-zero (length rest)))

-- from the result of a check of a run
pub bad_prefix_by : (width : ℕ) (b : List ℕ) (t : Bool) → (IsTrue t → (run_of width b).1 ≡ []) × ((run_of width b).1 ≡ [] → IsTrue t) → not t ≡ has_bad_prefix width b
bad_prefix_by width b t both = rest_test t (run_of width b).1 both.0 both.1
