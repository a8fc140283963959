-- Laws of rows and splits, for any spelling.
use Rattle.bgp_wire.proofs.Std.{◌≡◌, ℕ, ◌<◌, List, [], ◌∷◌, ◌++◌, length, refl, sym, ap, subst, ◌∙◌, append_assoc, arith, append_cancel_left}
use Rattle.std.proofs.lemmas.List.{append-nil}
use Rattle.bgp_wire.specs.Prelude.{Row, IsPrefixFree}

module _ {A : Type 0} (R : A → List ℕ → Type 0) where
  -- a row of one
  pub Row-one : (v : A) (b : List ℕ) → R v b → Row R (v ∷ []) b
  Row-one v b h = (b, [], sym (append-nil b), h, refl)

  -- a row after a row
  pub Row-append : (vs ws : List A) (a b : List ℕ) → Row R vs a → Row R ws b → Row R (vs ++ ws) (a ++ b)
  Row-append [] ws a b p q = subst (λ (x : List ℕ). Row R ws (x ++ b)) (sym p) q
  Row-append (v ∷ vs) ws a b p q =
      (p.0, p.1 ++ b, ap (λ (x : List ℕ). x ++ b) p.2 ∙ append_assoc p.0 p.1 b, p.3, Row-append vs ws p.1 b p.4 q)

  -- one more value at the end
  pub Row-push : (vs : List A) (v : A) (a b : List ℕ) → Row R vs a → R v b → Row R (vs ++ v ∷ []) (a ++ b)
  Row-push vs v a b p q = Row-append vs (v ∷ []) a b p (Row-one v b q)

  -- no values have no octets
  pub Row-nil : (b : List ℕ) → Row R [] b → b ≡ []
  Row-nil b p = p

-- a nonempty list and what follows it are not empty
not_nil : (a b : List ℕ) → 0 < length a → a ++ b ≡ [] → ⊥
not_nil [] b lt e = omega arith
not_nil (x ∷ a) b lt e = absurd cc

-- two splits of the same octets are one
pub Splits-unique : {A : Type 0} (R : A → List ℕ → Type 0) → IsPrefixFree R → (vs ws : List A) (a b r q : List ℕ) → Row R vs a → Row R ws b
    → ((v : A) (front back : List ℕ) → R v front → r ≡ front ++ back → ⊥) → ((v : A) (front back : List ℕ) → R v front → q ≡ front ++ back → ⊥)
    → a ++ r ≡ b ++ q → (vs ≡ ws) × (r ≡ q)
Splits-unique R free [] [] a b r q p s stuck_r stuck_q e =
    (refl, ap (λ (x : List ℕ). x ++ r) (sym p) ∙ e ∙ ap (λ (x : List ℕ). x ++ q) s)
Splits-unique R free [] (w ∷ ws) a b r q p s stuck_r stuck_q e =
    absurd (stuck_r w s.0 (s.1 ++ q) s.3 (ap (λ (x : List ℕ). x ++ r) (sym p) ∙ e ∙ ap (λ (x : List ℕ). x ++ q) s.2 ∙ append_assoc s.0 s.1 q))
Splits-unique R free (v ∷ vs) [] a b r q p s stuck_r stuck_q e =
    absurd (stuck_q v p.0 (p.1 ++ r) p.3 (ap (λ (x : List ℕ). x ++ q) (sym s) ∙ sym e ∙ ap (λ (x : List ℕ). x ++ r) p.2 ∙ append_assoc p.0 p.1 r))
Splits-unique {A = A} R free (v ∷ vs) (w ∷ ws) a b r q p s stuck_r stuck_q e =
    let both : p.0 ++ (p.1 ++ r) ≡ s.0 ++ (s.1 ++ q) = sym (append_assoc p.0 p.1 r) ∙ ap (λ (x : List ℕ). x ++ r) (sym p.2) ∙ e ∙ ap (λ (x : List ℕ). x ++ q) s.2 ∙ append_assoc s.0 s.1 q in
    let first = free.one_cut v w p.0 s.0 (p.1 ++ r) (s.1 ++ q) p.3 s.3 both in
    let later : p.1 ++ r ≡ s.1 ++ q = append_cancel_left p.0 (p.1 ++ r) (s.1 ++ q) (both ∙ ap (λ (x : List ℕ). x ++ (s.1 ++ q)) (sym first.0)) in
    let rest = Splits-unique R free vs ws p.1 s.1 r q p.4 s.4 stuck_r stuck_q later in
    let same_first : v ≡ w = first.1 in
    let same_later : vs ≡ ws = rest.0 in
    (ap (λ (x : A). x ∷ vs) same_first ∙ ap (λ (xs : List A). w ∷ xs) same_later, rest.1)
