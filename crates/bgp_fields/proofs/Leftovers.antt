-- What is left where no further piece can be read, found piece by piece.
use Rattle.bgp_fields.proofs.Prelude.{◌≡◌, ℕ, ◌<◌, List, length, Option, Some, None, refl, sym, ap, ◌∙◌, option_map, Reads, pieces, shorter, same_rest}
use Rattle.bgp_fields.proofs.Prelude.{all_rest}

abbrev pub behind : {A : Type 0} → Option (A × List ℕ) → Option (List ℕ)
behind o = option_map (λ x. x.1) o

some-same : (a b : List ℕ) → (let one : Option (List ℕ) = Some a in one ≡ Some b) → a ≡ b
some-same a b e = cc

module _ (A : Type 0) (R : A → List ℕ → Type 0) (one : List ℕ → Option (A × List ℕ)) (reads : Reads R one) where
  rest-by : (b after : List ℕ) (o : Option (A × List ℕ)) → one b ≡ o → Some after ≡ behind o → ((pieces one after).1 ≡ (pieces one b).1) × (length after < length b)
  rest-by b after None is e = absurd cc
  rest-by b after (Some (v, rest)) is e =
      let same : after ≡ rest = some-same after rest e in
      let found : Some (v, after) ≡ one b = ap (λ (x : List ℕ). Some (v, x)) same ∙ sym is in
      (same_rest A R one reads b v after found, shorter A R one reads b v after found)

  pub rest-same : (b after : List ℕ) → Some after ≡ behind (one b) → (pieces one after).1 ≡ (pieces one b).1
  rest-same b after e = (rest-by b after (one b) refl e).0

  pub rest-shorter : (b after : List ℕ) → Some after ≡ behind (one b) → length after < length b
  rest-shorter b after e = (rest-by b after (one b) refl e).1

  none-by : (b : List ℕ) (o : Option (A × List ℕ)) → one b ≡ o → None ≡ behind o → (pieces one b).1 ≡ b
  none-by b None is e = all_rest A R one reads b (sym is)
  none-by b (Some p) is e = absurd cc

  pub rest-all : (b : List ℕ) → None ≡ behind (one b) → (pieces one b).1 ≡ b
  rest-all b e = none-by b (one b) refl e
