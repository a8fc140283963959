-- What is collected capability by capability is what all capabilities give together.
use Rattle.std.proofs.Common.{◌≡◌, ℕ, Bool, true, false, ◌||◌, eqb, List, [], ◌∷◌, Option, Some, None, refl, sym, ◌∙◌}
use Rattle.std.specs.List.{list_any}
use Rattle.std.specs.Option.{option_or}
use Rattle.std.proofs.Math.Bool.{or-false, or_assoc}
use Rattle.bgp_numbers.specs.declared.afi.TheConstants.{IPV4, IPV6}
use Rattle.bgp_open.specs.declared.capability.Capability.{Capability}
use Rattle.bgp_open.specs.declared.capability.Capability.TheVariants.{Multi, As4, Other}
use Rattle.bgp_open.specs.declared.message.Open.{Open}
use Rattle.bgp_open.specs.Prelude.{code_of, Told, first_as4, is_unicast, codes_of, told_by, plain, also_offers, offering}

or_turned : (p q r : Bool) → ((q || p) || r) ≡ (p || (q || r))
or_turned true true r = refl
or_turned true false r = refl
or_turned false true r = refl
or_turned false false r = refl

number-none : (n : Option ℕ) → option_or n None ≡ n
number-none None = refl
number-none (Some k) = refl

number-both : (n : Option ℕ) (c : Capability) (later : List Capability) → option_or (option_or n (first_as4 (c ∷ []))) (first_as4 later) ≡ option_or n (first_as4 (c ∷ later))
number-both (Some k) c later = refl
number-both None (Multi family subsequent) later = refl
number-both None (As4 k) later = refl
number-both None (Other code value) later = refl

-- what was collected so far, and what these capabilities add
abbrev with : Told → List Capability → Told
with p caps = record {
  as_field = p.as_field;
  as4 = option_or p.as4 (first_as4 caps);
  id = p.id;
  hold = p.hold;
  ip4 = p.ip4 || list_any (is_unicast IPV4) caps;
  ip6 = p.ip6 || list_any (is_unicast IPV6) caps;
  codes = λ code. p.codes code || codes_of caps code;
}

same : (f h : ℕ) (i : List ℕ) (m n : Option ℕ) (a b d e : Bool) (s t : ℕ → Bool) → m ≡ n → a ≡ b → d ≡ e → s ≡ t
    → (let x : Told = record { as_field = f; as4 = m; id = i; hold = h; ip4 = a; ip6 = d; codes = s } in
    let y : Told = record { as_field = f; as4 = n; id = i; hold = h; ip4 = b; ip6 = e; codes = t } in x ≡ y)
same f h i m n a b d e s t p q r u = rw (p, q, r, u) refl

offering-with : (p : Told) (caps : List Capability) → offering p caps ≡ with p caps
offering-with p [] =
    sym (same p.as_field p.hold p.id _ p.as4 _ p.ip4 _ p.ip6 (λ code. p.codes code || false) p.codes
    (number-none p.as4) (or-false p.ip4) (or-false p.ip6) (λ i code. or-false (p.codes code) i))
offering-with p (c ∷ later) =
    offering-with (also_offers p c) later
    ∙ same p.as_field p.hold p.id _ _ _ _ _ _ (λ code. (eqb code (code_of c) || p.codes code) || codes_of later code) (λ code. p.codes code || codes_of (c ∷ later) code)
    (number-both p.as4 c later) (or_assoc p.ip4 (is_unicast IPV4 c) _) (or_assoc p.ip6 (is_unicast IPV6 c) _)
    (λ i code. or_turned (p.codes code) (eqb code (code_of c)) (codes_of later code) i)

-- what an OPEN gives is collected capability by capability
pub offering-open : (o : Open) → offering (plain o.as_field o.hold o.id) o.caps ≡ told_by o
offering-open o = offering-with (plain o.as_field o.hold o.id) o.caps

pub told : (p : Told) (caps : List Capability) (as_field hold : ℕ) (id : List ℕ) (o : Open) → p ≡ plain as_field hold id → as_field ≡ o.as_field → hold ≡ o.hold → id ≡ o.id
    → caps ≡ o.caps → offering p caps ≡ told_by o
told p caps as_field hold id o is f h i c = rw (is, f, h, i, c) (offering-open o)
