-- From a number to those after it.
use Rattle.ristulva_c.proofs.Below.{◌≡◌, ℕ, ◌+◌, ◌-◌, ◌≤◌, Bool, List, ◌∷◌, length, Some, ap, ◌∙◌, arith, IsNumber, one_number, numbers_of, IsNumber-reads}
use Rattle.ristulva_c.specs.declared.numbers.Numbers.{Numbers}
use Rattle.ristulva_c.specs.Prelude.{between, IsNumbers}
use Rattle.ristulva_c.proofs.Between.{rest_fits, pieces_behind}

module _ (wide : Bool) (b field : List ℕ) (old : Numbers) (n : ℕ) (rest : List ℕ) (lies : IsNumbers b old) (is : field ≡ between b old.at old.end) (e : Some (n, rest) ≡ one_number wide field) where
  pub number_fits : old.at + length rest ≤ old.end
  number_fits = omega (arith, rest_fits ℕ (IsNumber wide) (one_number wide) (IsNumber-reads wide) b old.at old.end n rest lies.in_order lies.within (e ∙ ap (one_number wide) is))

  -- what remains after a number, by the cursor
  pub numbers_behind : numbers_of wide (between b old.at old.end) ≡ n ∷ numbers_of wide (between b (old.end - length rest) old.end)
  numbers_behind =
      pieces_behind ℕ (IsNumber wide) (one_number wide) (IsNumber-reads wide) b old.at old.end n rest lies.in_order lies.within (e ∙ ap (one_number wide) is)
      (old.end - length rest) (omega (arith, number_fits))
