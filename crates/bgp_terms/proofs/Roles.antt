-- Who receives and who sends path identifiers is as bgp_open finds, whose private roles have no name here.
use Rattle.bgp_wire.proofs.Std.{◌≡◌, ℕ, Bool, false, ◌&&◌, ◌||◌, ◌==◌, List, [], ◌∷◌, refl, ap, ◌∙◌, list_any, from_be_bytes, w16}
use Rattle.std.proofs.Math.Bool.{and_comm}
use Rattle.bgp_numbers.specs.declared.afi.TheConstants.{IPV4, IPV6}
use Rattle.bgp_numbers.specs.declared.capability.TheConstants.{ADD_PATH}
use Rattle.bgp_numbers.specs.declared.safi.TheConstants.{UNICAST}
use Rattle.bgp_open.specs.declared.capability.Capability.{Capability}
use Rattle.bgp_open.specs.declared.capability.Capability.TheVariants.{Multi, As4, Other}
use Rattle.bgp_open.specs.declared.message.Open.{Open}
use Rattle.bgp_open.specs.Prelude.{agree_on_paths, has_paths, is_path_row, said_by}
use Rattle.bgp_terms.specs.declared.paths.Role.{Role}
use Rattle.bgp_terms.specs.declared.paths.Role.TheVariants.{Reads, Sends}
use Rattle.bgp_terms.specs.Prelude.{does, has_role, offers_role, terms_of}

-- a test that reads a row as `has_role` does
abbrev IsRole : Role → ℕ → (List ℕ → Bool) → Type 0
IsRole role family f =
    (f [] ≡ false) × (((a : ℕ) → f (a ∷ []) ≡ false) × (((a b : ℕ) → f (a ∷ b ∷ []) ≡ false) × (((a b c : ℕ) → f (a ∷ b ∷ c ∷ []) ≡ false)
    × ((a b safi code : ℕ) (later : List ℕ)
    → f (a ∷ b ∷ safi ∷ code ∷ later) ≡ (((from_be_bytes w16 (a ∷ b ∷ []) == family) && ((safi == UNICAST) && does role code)) || f later)))))

roles : (role : Role) (family : ℕ) (f : List ℕ → Bool) → IsRole role family f → (value : List ℕ) → f value ≡ has_role role family value
roles role family f is [] = is.0
roles role family f is (a ∷ []) = is.1.0 a
roles role family f is (a ∷ b ∷ []) = is.1.1.0 a b
roles role family f is (a ∷ b ∷ c ∷ []) = is.1.1.1.0 a b c
roles role family f is (a ∷ b ∷ safi ∷ code ∷ later) =
    is.1.1.1.1 a b safi code later
    ∙ ap (λ (x : Bool). ((from_be_bytes w16 (a ∷ b ∷ []) == family) && ((safi == UNICAST) && does role code)) || x) (roles role family f is later)

-- and a test of capabilities that uses it
abbrev Understands : (List ℕ → Bool) → (Capability → Bool) → Type 0
Understands f g =
    ((code : ℕ) (value : List ℕ) → g (Other code value) ≡ ((code == ADD_PATH) && (is_path_row value && f value)))
    × (((afi safi : ℕ) → g (Multi afi safi) ≡ false) × ((n : ℕ) → g (As4 n) ≡ false))

understands : (role : Role) (family : ℕ) (f : List ℕ → Bool) (g : Capability → Bool) → IsRole role family f → Understands f g → (c : Capability) → g c ≡ offers_role role family c
understands role family f g is has (Other code value) = has.0 code value ∙ ap (λ (x : Bool). (code == ADD_PATH) && (is_path_row value && x)) (roles role family f is value)
understands role family f g is has (Multi afi safi) = has.1.0 afi safi
understands role family f g is has (As4 n) = has.1.1 n

takes : (role : Role) (family : ℕ) (f : List ℕ → Bool) (g : Capability → Bool) → IsRole role family f → Understands f g → (caps : List Capability)
    → list_any g caps ≡ list_any (offers_role role family) caps
takes role family f g is has [] = refl
takes role family f g is has (c ∷ later) = rw (understands role family f g is has c, takes role family f g is has later) refl

both : (a b c d : Bool) → a ≡ b → c ≡ d → (a && c) ≡ (b && d)
both a b c d p q = rw (p, q) refl

found : (family : ℕ) (s r : Open) → has_paths family s r ≡ (list_any (offers_role Sends family) s.caps && list_any (offers_role Reads family) r.caps)
found family s r =
    both _ _ _ _
    (takes Sends family _ _ (refl, (λ a. refl, (λ a b. refl, (λ a b c. refl, λ a b safi code later. refl)))) (λ code value. refl, (λ afi safi. refl, λ n. refl)) s.caps)
    (takes Reads family _ _ (refl, (λ a. refl, (λ a b. refl, (λ a b c. refl, λ a b safi code later. refl)))) (λ code value. refl, (λ afi safi. refl, λ n. refl)) r.caps)

pub paths-same : (s r : Open) → agree_on_paths s r ≡ ((terms_of r s).paths4 || ((terms_of r s).context.ip6 && (terms_of r s).paths6))
paths-same s r = rw (found IPV4 s r, found IPV6 s r, and_comm (said_by s).ip6 (said_by r).ip6) refl
