-- The lines that aren't skipped, one after another.
use Rattle.bgp_wire.proofs.Std.{◌≡◌, ℕ, ◌+◌, Bool, true, false, cond, eqb, List, [], ◌∷◌, length, Result, Ok, Err, sym, ap, ◌∙◌, arith}
use Rattle.std.proofs.lemmas.Bool.{eqb-true}
use Rattle.bgp_script.specs.Lines.{Told, Left, lines_of, is_skipped, told_from, left_behind, first_told, next_told}

-- the next one, where these lines follow the first n
abbrev next_of : ℕ → List (List ℕ) → Result (Told × Left) ℕ
next_of n lines = first_told (n + length lines + 1) (told_from (n + 1) lines)

module _ (n : ℕ) (text line rest : List ℕ) (cut : lines_of text ≡ line ∷ lines_of rest) where
  counted : n + 1 + length (lines_of rest) + 1 ≡ n + length (line ∷ lines_of rest) + 1
  counted = omega arith

  abbrev told : Told
  told = record { number = n + 1; line = line }

  abbrev chosen : ℕ → Bool → Result (Told × Left) ℕ
  chosen after b = first_told after (cond b (told_from (n + 1 + 1) (lines_of rest)) (told ∷ told_from (n + 1 + 1) (lines_of rest)))

  pub skips : true ≡ is_skipped line → next_told (left_behind (n + 1) rest) ≡ next_told (left_behind n text)
  skips is = ap (λ (k : ℕ). chosen k true) counted ∙ ap (chosen (n + length (line ∷ lines_of rest) + 1)) is ∙ ap (next_of n) (sym cut)

  pub tells : false ≡ is_skipped line → Ok (told, left_behind (n + 1) rest) ≡ next_told (left_behind n text)
  tells is = ap (λ (k : ℕ). chosen k false) counted ∙ ap (chosen (n + length (line ∷ lines_of rest) + 1)) is ∙ ap (next_of n) (sym cut)

pub ends : (n : ℕ) (text : List ℕ) → true ≡ eqb (length text) 0 → Err (n + 1) ≡ next_told (left_behind n text)
ends n [] none = let same : n + 1 ≡ n + 0 + 1 = omega arith in ap (λ (k : ℕ). Err k) same
ends n (c ∷ text) none = let zero_long : length (c ∷ text) ≡ 0 = eqb-true (length (c ∷ text)) 0 (sym none) in absurd (omega arith)
