-- Each end of a session finds the same terms.
use Rattle.bgp_wire.proofs.Std.{◌≡◌, ℕ, Bool, not, ◌&&◌, ◌||◌, cond, eqb, Option, Some, None, refl, sym, ap, subst, ◌∙◌, inl, inr, eq-eqb, ne_eqb}
use Rattle.std.specs.Prelude.{is_some, unwrap_or}
use Rattle.std.proofs.lemmas.Bool.Decides.{eqb_tells}
use Rattle.std.proofs.Math.Bool.{and_comm}
use Rattle.std.proofs.Math.Nat.{min_comm}
use Rattle.bgp_numbers.specs.declared.TheConstants.{AS_TRANS}
use Rattle.bgp_open.specs.declared.context.Context.{Context}
use Rattle.bgp_open.specs.declared.message.Open.{Open}
use Rattle.bgp_open.specs.Prelude.{Said, agreed_with, said_by}
use Rattle.bgp_terms.specs.Prelude.{terms_of, terms_sent}

eqb_swaps : (m n : ℕ) → eqb m n ≡ eqb n m
eqb_swaps m n =
    elim (eqb_tells m n) [
      | inl same ↦ same.0 ∙ sym (eq-eqb n m (sym same.1))
      | inr other ↦ other.0 ∙ sym (ne_eqb n m (λ e. other.1 (sym e)))
    ]

same_context : (i j a b p q u v : Bool) (h k : ℕ) → i ≡ j → a ≡ b → p ≡ q → u ≡ v → h ≡ k
    → (let x : Context = record { internal = i; as4 = a; ip4 = p; ip6 = u; hold = h } in let y : Context = record { internal = j; as4 = b; ip4 = q; ip6 = v; hold = k } in x ≡ y)
same_context i j a b p q u v h k e f g l m = rw (e, f, g, l, m) refl

-- whether two speakers are in one AS, by their capabilities and their My Autonomous System
abbrev one_as : Option ℕ → ℕ → Option ℕ → ℕ → Bool
one_as p f q g = cond (is_some p && is_some q) (eqb (unwrap_or p f) (unwrap_or q g)) (eqb f g && (eqb (unwrap_or p f) (unwrap_or q g) || not (eqb f AS_TRANS)))

fields_swap : (f g m n : ℕ) → (eqb f g && (eqb m n || not (eqb f AS_TRANS))) ≡ (eqb g f && (eqb n m || not (eqb g AS_TRANS)))
fields_swap f g m n =
    elim (eqb_tells f g) [
      | inl same ↦
          subst (λ (k : ℕ). (eqb f k && (eqb m n || not (eqb f AS_TRANS))) ≡ (eqb k f && (eqb n m || not (eqb k AS_TRANS)))) same.1
          (ap (λ (b : Bool). eqb f f && (b || not (eqb f AS_TRANS))) (eqb_swaps m n))
      | inr other ↦ rw (other.0, eqb_swaps g f ∙ other.0) refl
    ]

one_as_swaps : (p : Option ℕ) (f : ℕ) (q : Option ℕ) (g : ℕ) → one_as p f q g ≡ one_as q g p f
one_as_swaps (Some m) f (Some n) g = eqb_swaps m n
one_as_swaps (Some m) f None g = fields_swap f g m g
one_as_swaps None f (Some n) g = fields_swap f g f n
one_as_swaps None f None g = fields_swap f g f g

pub agreed_swaps : (a b : Said) → agreed_with a b ≡ agreed_with b a
agreed_swaps a b =
    same_context _ _ _ _ _ _ _ _ _ _
    (one_as_swaps a.as4 a.as_field b.as4 b.as_field)
    (and_comm (is_some a.as4) (is_some b.as4)) (and_comm a.ip4 b.ip4) (and_comm a.ip6 b.ip6) (min_comm a.hold b.hold)

pub terms_same : (a b : Open) → terms_of a b ≡ terms_sent b a
terms_same a b = ap (λ (ctx : Context). record (terms_of a b) { context = ctx }) (agreed_swaps (said_by a) (said_by b))
