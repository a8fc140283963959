-- The first AS number among capabilities, and that both sides of a session agree.
use Rattle.bgp_wire.proofs.Std.{◌≡◌, ℕ, Bool, true, false, not, ◌&&◌, ◌||◌, cond, eqb, List, ◌++◌, Option, Some, None, Ok, Err, refl, sym, ap, ◌∙◌, inl, inr, list_any}
use Rattle.std.specs.Prelude.{is_some, unwrap_or, min}
use Rattle.std.proofs.lemmas.Bool.{eqb-true, eq-eqb, ne_eqb, true≢false}
use Rattle.std.proofs.lemmas.Bool.Decides.{eqb_tells}
use Rattle.std.proofs.Math.Bool.{and_comm}
use Rattle.std.proofs.Math.Nat.{min_comm}
use Rattle.bgp_numbers.specs.declared.TheConstants.{AS_TRANS}
use Rattle.bgp_numbers.specs.declared.afi.TheConstants.{IPV4, IPV6}
use Rattle.bgp_numbers.specs.declared.safi.TheConstants.{UNICAST}
use Rattle.bgp_open.specs.declared.capability.Capability.{Capability}
use Rattle.bgp_open.specs.declared.capability.Capability.TheVariants.{Multi, As4}
use Rattle.bgp_open.specs.declared.context.Context.{Context}
use Rattle.bgp_open.specs.Prelude.{is_one_as, is_wide, Settings, IsAllowed, field_for, offered, own_of, peer_as_of, said_by, same_id, context_of, agreement, first_as4, is_unicast}
use Rattle.bgp_open.specs.declared.agreement.PeerFault.TheVariants as peer
use Rattle.bgp_open.proofs.Configs.{allowed-wide}

-- ---- both sides

-- the capabilities that a speaker offers are read back
abbrev offers : Bool → Bool → Bool → ℕ → List Capability
offers p q r n = offered p (Multi IPV4 UNICAST) ++ (offered q (Multi IPV6 UNICAST) ++ offered r (As4 n))

finds : (p q r : Bool) (n : ℕ)
    → (first_as4 (offers p q r n) ≡ cond r (Some n) None) × ((list_any (is_unicast IPV4) (offers p q r n) ≡ p) × (list_any (is_unicast IPV6) (offers p q r n) ≡ q))
finds false false false n = (refl, (refl, refl))
finds false false true n = (refl, (refl, refl))
finds false true false n = (refl, (refl, refl))
finds false true true n = (refl, (refl, refl))
finds true false false n = (refl, (refl, refl))
finds true false true n = (refl, (refl, refl))
finds true true false n = (refl, (refl, refl))
finds true true true n = (refl, (refl, refl))

pub finds_ip4 : (p q r : Bool) (n : ℕ) → list_any (is_unicast IPV4) (offers p q r n) ≡ p
finds_ip4 p q r n = (finds p q r n).1.0

pub finds_ip6 : (p q r : Bool) (n : ℕ) → list_any (is_unicast IPV6) (offers p q r n) ≡ q
finds_ip6 p q r n = (finds p q r n).1.1

is_some_of : (r : Bool) (n : ℕ) → is_some (cond r (Some n) None) ≡ r
is_some_of true n = refl
is_some_of false n = refl

pub has_as4 : (p q r : Bool) (n : ℕ) → is_some (first_as4 (offers p q r n)) ≡ r
has_as4 p q r n = ap is_some (finds p q r n).0 ∙ is_some_of r n

number_of : (as4 : Bool) (wide : Bool) (n : ℕ) → (wide && not as4) ≡ false → unwrap_or (cond as4 (Some n) None) (cond wide AS_TRANS n) ≡ n
number_of true wide n h = refl
number_of false false n h = refl
number_of false true n h = absurd (true≢false h)

-- an allowed speaker's own AS number is what its peer finds
pub peer_as-own : (s : Settings) → IsAllowed s → peer_as_of (own_of s) ≡ s.local_as
peer_as-own s allowed =
    ap (λ (o : Option ℕ). unwrap_or o (field_for s.local_as)) (finds s.ip4 s.ip6 s.as4 s.local_as).0
    ∙ number_of s.as4 (is_wide s.local_as) s.local_as (allowed-wide s allowed)

abbrev shared : Settings → Settings → Context
shared s t = record { internal = eqb s.local_as s.peer_as; as4 = s.as4 && t.as4; ip4 = s.ip4 && t.ip4; ip6 = s.ip6 && t.ip6; hold = min s.hold t.hold }

context-own : (s t : Settings) → context_of s (own_of t) ≡ shared s t
context-own s t =
    rw (has_as4 t.ip4 t.ip6 t.as4 t.local_as, finds_ip4 t.ip4 t.ip6 t.as4 t.local_as, finds_ip6 t.ip4 t.ip6 t.as4 t.local_as) refl

-- the tests of a peer's AS number and identifier are passed
pub accepted : (other same : Bool) (x y : Context) → cond (not other) (Err peer.PeerAs) (cond same (Err peer.Identifier) (Ok x)) ≡ Ok y → (other ≡ true) × (x ≡ y)
accepted false same x y e = absurd cc
accepted true true x y e = absurd cc
accepted true false x y e = (refl, cc)

eqb_swaps : (m n : ℕ) → eqb m n ≡ eqb n m
eqb_swaps m n =
    elim (eqb_tells m n) [
      | inl same ↦ same.0 ∙ sym (eq-eqb n m (sym same.1))
      | inr other ↦ other.0 ∙ sym (ne_eqb n m (λ e. other.1 (sym e)))
    ]

same_context : (i j a b p q u v : Bool) (h k : ℕ) → i ≡ j → a ≡ b → p ≡ q → u ≡ v → h ≡ k
    → (let x : Context = record { internal = i; as4 = a; ip4 = p; ip6 = u; hold = h } in let y : Context = record { internal = j; as4 = b; ip4 = q; ip6 = v; hold = k } in x ≡ y)
same_context i j a b p q u v h k e f g l m = rw (e, f, g, l, m) refl

shared_swaps : (s t : Settings) → s.peer_as ≡ t.local_as → t.peer_as ≡ s.local_as → shared s t ≡ shared t s
shared_swaps s t p q =
    same_context _ _ _ _ _ _ _ _ _ _
    (ap (λ (n : ℕ). eqb s.local_as n) p ∙ eqb_swaps s.local_as t.local_as ∙ ap (λ (n : ℕ). eqb t.local_as n) (sym q))
    (and_comm s.as4 t.as4) (and_comm s.ip4 t.ip4) (and_comm s.ip6 t.ip6) (min_comm s.hold t.hold)

pub both_agree : (a b : Settings) (x y : Context) → IsAllowed a → IsAllowed b → agreement a (own_of b) ≡ Ok x → agreement b (own_of a) ≡ Ok y → x ≡ y
both_agree a b x y allowed_a allowed_b ea eb =
    let p = accepted (eqb (peer_as_of (own_of b)) a.peer_as) (eqb a.local_as a.peer_as && same_id (own_of b).id a.id) (context_of a (own_of b)) x ea in
    let q = accepted (eqb (peer_as_of (own_of a)) b.peer_as) (eqb b.local_as b.peer_as && same_id (own_of a).id b.id) (context_of b (own_of a)) y eb in
    let to_b : a.peer_as ≡ b.local_as = sym (eqb-true _ _ p.0) ∙ peer_as-own b allowed_b in
    let to_a : b.peer_as ≡ a.local_as = sym (eqb-true _ _ q.0) ∙ peer_as-own a allowed_a in
    sym p.1 ∙ context-own a b ∙ shared_swaps a b to_b to_a ∙ sym (context-own b a) ∙ q.1

-- ---- from both OPENs

absorbs : (x y : Bool) → (x && (x || y)) ≡ x
absorbs true y = refl
absorbs false y = refl

and-none : (x : Bool) → (x && false) ≡ false
and-none true = refl
and-none false = refl

and-not : (x : Bool) → (x && not x) ≡ false
and-not true = refl
and-not false = refl

-- a number that needs four octets differs from any of two
differ : (m n : ℕ) → is_wide m ≡ true → is_wide n ≡ false → eqb m n ≡ false
differ m n wide narrow = ne_eqb m n (λ e. true≢false (sym wide ∙ ap is_wide e ∙ narrow))

-- whether two speakers are in one AS, by their capabilities and their My Autonomous System
abbrev one_as : Option ℕ → ℕ → Option ℕ → ℕ → Bool
one_as p f q g = cond (is_some p && is_some q) (eqb (unwrap_or p f) (unwrap_or q g)) (eqb f g && (eqb (unwrap_or p f) (unwrap_or q g) || not (eqb f AS_TRANS)))

-- an allowed speaker finds this by comparing its number with the other's
one_as-finds : (m n : ℕ) (p q v w : Bool) → is_wide m ≡ v → is_wide n ≡ w → (v && not p) ≡ false
    → one_as (cond p (Some m) None) (cond v AS_TRANS m) (cond q (Some n) None) (cond w AS_TRANS n) ≡ eqb m (unwrap_or (cond q (Some n) None) (cond w AS_TRANS n))
one_as-finds m n true true v w at_m at_n allowed = refl
one_as-finds m n false q true w at_m at_n allowed = absurd (true≢false allowed)
one_as-finds m n false false false w at_m at_n allowed = absorbs (eqb m (cond w AS_TRANS n)) _
one_as-finds m n false true false false at_m at_n allowed = absorbs (eqb m n) _
one_as-finds m n false true false true at_m at_n allowed =
    let other : eqb m n ≡ false = eqb_swaps m n ∙ differ n m at_n at_m in
    rw other (and-not (eqb m AS_TRANS))
one_as-finds m n true false false w at_m at_n allowed = absorbs (eqb m (cond w AS_TRANS n)) _
one_as-finds m n true false true true at_m at_n allowed = rw (differ m AS_TRANS at_m refl) refl
one_as-finds m n true false true false at_m at_n allowed = rw (differ m n at_m at_n) (and-none (eqb AS_TRANS n))

pub one_as-own : (a b : Settings) → IsAllowed a → is_one_as (said_by (own_of a)) (said_by (own_of b)) ≡ eqb a.local_as (peer_as_of (own_of b))
one_as-own a b allowed =
    rw ((finds a.ip4 a.ip6 a.as4 a.local_as).0, (finds b.ip4 b.ip6 b.as4 b.local_as).0)
    (one_as-finds a.local_as b.local_as a.as4 b.as4 (is_wide a.local_as) (is_wide b.local_as) refl refl (allowed-wide a allowed))
