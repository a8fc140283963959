-- From a prefix to those after it.
use Rattle.ristulva_c.proofs.Below.{◌≡◌, ℕ, ◌+◌, ◌-◌, ◌≤◌, List, ◌∷◌, length, drop, Some, ap, ◌∙◌, arith, take_at, PrefixValue, IsPrefix, one_prefix, run_of, IsPrefix-reads}
use Rattle.ristulva_c.specs.declared.prefixes.Prefixes.{Prefixes}
use Rattle.ristulva_c.specs.Facts.{no_address}
use Rattle.ristulva_c.specs.Prelude.{width_of, between, IsWithin, prefix_told, prefix_row}
use Rattle.ristulva_c.proofs.Between.{rest_fits, pieces_behind}

module _ (width : ℕ) (b field : List ℕ) (old : Prefixes) (p : PrefixValue) (rest : List ℕ) (lies : IsWithin b old) (is : field ≡ between b old.at old.end) (e : Some (p, rest) ≡ one_prefix width field) where
  pub prefix_fits : old.at + length rest ≤ old.end
  prefix_fits =
      omega (arith, rest_fits PrefixValue (IsPrefix width) (one_prefix width) (IsPrefix-reads width) b old.at old.end p rest lies.in_order lies.within (e ∙ ap (one_prefix width) is))

  -- what remains after a prefix, by the cursor
  pub prefixes_behind : (run_of width (between b old.at old.end)).0 ≡ p ∷ (run_of width (between b (old.end - length rest) old.end)).0
  prefixes_behind =
      pieces_behind PrefixValue (IsPrefix width) (one_prefix width) (IsPrefix-reads width) b old.at old.end p rest lies.in_order lies.within (e ∙ ap (one_prefix width) is)
      (old.end - length rest) (omega (arith, prefix_fits))

-- ---- as reported

module _ (afi : ℕ) (p : PrefixValue) (wide : length p.addr ≡ width_of afi) where
  pub told_same : prefix_told (prefix_row afi p) ≡ p
  told_same = ap (λ (addr : List ℕ). record { len = p.len; addr = addr }) (take_at p.addr (drop (length p.addr) no_address) (width_of afi) wide)
