-- The first n octets, and what is read from them.
use Rattle.bgp_wire.proofs.Std.{◌≡◌, ℕ, Bool, true, false, cond, leb, List, ◌++◌, length, take, drop, Option, Some, None, refl, sym, ap, ap₂, ◌∙◌, arith, leb-true, le-leb, take_at, drop_at, take-append-drop}
use Rattle.std.proofs.lemmas.List.{length-append, length-take}
use Rattle.bgp_wire.specs.Prelude.{◌>>=◌, first_octets}

module _ {A B : Type 0} where
  -- a second step of which a test decides whether there is one
  pub cond-then : (t : Bool) (x : A) (f : A → Option B) → (cond t (Some x) None >>= f) ≡ cond t (f x) None
  cond-then true x f = refl
  cond-then false x f = refl

  -- both steps succeeded
  pub both_steps : (o : Option A) (f : A → Option B) (y : B) → (o >>= f) ≡ Some y → (x : A) × (o ≡ Some x) × (f x ≡ Some y)
  both_steps None f y e = absurd cc
  both_steps (Some x) f y e = (x, refl, e)

-- octets at the front are found by their length
pub first_octets-finds : (front back : List ℕ) → first_octets (length front) (front ++ back) ≡ Some (front, back)
first_octets-finds front back =
    let fits : leb (length front) (length (front ++ back)) ≡ true = le-leb _ _ (omega (arith, length-append front back)) in
    rw (fits, take_at front back (length front) refl, drop_at front back (length front) refl) refl

pub first_octets-at : (n : ℕ) (front back : List ℕ) → length front ≡ n → first_octets n (front ++ back) ≡ Some (front, back)
first_octets-at n front back e = ap (λ (m : ℕ). first_octets m (front ++ back)) (sym e) ∙ first_octets-finds front back

-- what was found is the front of the octets
pub record IsFront (n : ℕ) (b front back : List ℕ) : Type 0 where
  pub octets : b ≡ front ++ back
  pub long : length front ≡ n

gives_at : (n : ℕ) (b front back : List ℕ) (t : Bool) → leb n (length b) ≡ t → cond {A = Option (List ℕ × List ℕ)} t (Some (take n b, drop n b)) None ≡ Some (front, back) → IsFront n b front back
gives_at n b front back true le e =
    let same : (take n b, drop n b) ≡ (front, back) = cc in
    let first : take n b ≡ front = ap (λ (p : List ℕ × List ℕ). p.0) same in
    let later : drop n b ≡ back = ap (λ (p : List ℕ × List ℕ). p.1) same in
    record { octets = sym (take-append-drop n b) ∙ ap₂ ◌++◌ first later; long = omega (arith, ap length first, length-take n b, leb-true n (length b) le) }
gives_at n b front back false le e = absurd cc

pub first_octets-gives : (n : ℕ) (b front back : List ℕ) → first_octets n b ≡ Some (front, back) → IsFront n b front back
first_octets-gives n b front back e = gives_at n b front back (leb n (length b)) refl e
