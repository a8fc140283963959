-- Attributes of unrecognised types, each inserted in ascending order of types.
use Rattle.bgp_wire.proofs.Std.{◌≡◌, ℕ, zero, suc, ◌+◌, ◌<◌, ◌≤◌, Bool, true, false, ◌||◌, cond, eqb, ltb, List, [], ◌∷◌, ◌++◌, map, Option, Some, None, refl, sym, ap, ap₂, ◌∙◌, append_assoc, arith, flat_map, find, list_any, AllByRecursion, option_or, both_ways, ltb-true, ltb-false, eqb-false, and_parts, and_from, or_parts}
use Rattle.std.proofs.lemmas.Bool.{eqb-true, lt-ltb, ne_eqb}
use Rattle.std.proofs.lemmas.List.{append-nil}
use Rattle.bgp_attr.specs.declared.opaque.Opaque.{Opaque}
use Rattle.bgp_wire.specs.Prelude.{also}
use Rattle.bgp_update.specs.Prelude.{put_rising, rising_behind, types_from, rise_behind, rise}
use Rattle.bgp_update.proofs.Lists.{eqb-swap, or-none, find-none, all-append, all-more, flat_map-none}

-- no type occurs twice, nor is it among those that were seen
abbrev pub NoneTwice : (ℕ → Bool) → List ℕ → Type 0
NoneTwice seen [] = Unit {0}
NoneTwice seen (k ∷ ks) = (seen k ≡ false) × NoneTwice (also k seen) ks

abbrev pub kinds : List Opaque → List ℕ
kinds os = map (λ o. o.kind) os

abbrev pub has_kind : ℕ → List Opaque → Bool
has_kind k os = list_any (λ o. eqb o.kind k) os

abbrev pub of_kind : ℕ → List Opaque → Option Opaque
of_kind k os = find (λ o. eqb o.kind k) os

-- ---- one more, inserted

or-swap : (x y z : Bool) → (x || (y || z)) ≡ (y || (x || z))
or-swap true true z = refl
or-swap true false z = refl
or-swap false y z = refl

has-by : (k : ℕ) (o p : Opaque) (ps : List Opaque) (t : Bool) → has_kind k (put_rising o ps) ≡ (eqb o.kind k || has_kind k ps)
    → has_kind k (cond t (p ∷ put_rising o ps) (o ∷ p ∷ ps)) ≡ (eqb o.kind k || (eqb p.kind k || has_kind k ps))
has-by k o p ps true later = ap (λ (b : Bool). eqb p.kind k || b) later ∙ or-swap (eqb p.kind k) (eqb o.kind k) (has_kind k ps)
has-by k o p ps false later = refl

pub put-has : (k : ℕ) (o : Opaque) (ps : List Opaque) → has_kind k (put_rising o ps) ≡ (eqb o.kind k || has_kind k ps)
put-has k o [] = refl
put-has k o (p ∷ ps) = has-by k o p ps (ltb p.kind o.kind) (put-has k o ps)

cond-swap : (x y : Bool) (a b c : Option Opaque) → (x ≡ true → y ≡ false) → cond x a (cond y b c) ≡ cond y b (cond x a c)
cond-swap true true a b c apart = absurd (both_ways true (apart refl) refl)
cond-swap true false a b c apart = refl
cond-swap false y a b c apart = refl

-- two types that differ aren't both k
not_both : (a b k : ℕ) → eqb a b ≡ false → eqb a k ≡ true → eqb b k ≡ false
not_both a b k other same = ne_eqb b k (λ (e : b ≡ k). eqb-false a b other (eqb-true a k same ∙ sym e))

pub find-by : (k : ℕ) (o p : Opaque) (ps : List Opaque) (t : Bool) → eqb p.kind o.kind ≡ false → of_kind k (put_rising o ps) ≡ cond (eqb o.kind k) (Some o) (of_kind k ps)
    → of_kind k (cond t (p ∷ put_rising o ps) (o ∷ p ∷ ps)) ≡ cond (eqb o.kind k) (Some o) (cond (eqb p.kind k) (Some p) (of_kind k ps))
find-by k o p ps true other later =
    ap (λ (x : Option Opaque). cond (eqb p.kind k) (Some p) x) later
    ∙ cond-swap (eqb p.kind k) (eqb o.kind k) (Some p) (Some o) (of_kind k ps) (not_both p.kind o.kind k other)
find-by k o p ps false other later = refl

pub put-find : (k : ℕ) (o : Opaque) (ps : List Opaque) → has_kind o.kind ps ≡ false → of_kind k (put_rising o ps) ≡ cond (eqb o.kind k) (Some o) (of_kind k ps)
put-find k o [] new = refl
put-find k o (p ∷ ps) new =
    let parts = or_parts (eqb p.kind o.kind) (has_kind o.kind ps) new in
    find-by k o p ps (ltb p.kind o.kind) parts.0 (put-find k o ps parts.1)

all-by : (P : Opaque → Type 0) (o p : Opaque) (ps : List Opaque) (t : Bool) → P o → P p → AllByRecursion P ps → AllByRecursion P (put_rising o ps)
    → AllByRecursion P (cond t (p ∷ put_rising o ps) (o ∷ p ∷ ps))
all-by P o p ps true this first all later = (first, later)
all-by P o p ps false this first all later = (this, (first, all))

pub put-all : (P : Opaque → Type 0) (o : Opaque) (ps : List Opaque) → P o → AllByRecursion P ps → AllByRecursion P (put_rising o ps)
put-all P o [] this all = (this, tt)
put-all P o (p ∷ ps) this all = all-by P o p ps (ltb p.kind o.kind) this all.0 all.1 (put-all P o ps this all.1)

-- ---- ascending

-- each type is above the one before it, the first no less than this
abbrev pub RisesFrom : ℕ → List Opaque → Type 0
RisesFrom low [] = Unit {0}
RisesFrom low (o ∷ os) = (low ≤ o.kind) × RisesFrom (o.kind + 1) os

rises-by : (low : ℕ) (o p : Opaque) (ps : List Opaque) (t : Bool) → ltb p.kind o.kind ≡ t → eqb p.kind o.kind ≡ false → low ≤ o.kind → low ≤ p.kind → RisesFrom (p.kind + 1) ps
    → (p.kind + 1 ≤ o.kind → RisesFrom (p.kind + 1) (put_rising o ps)) → RisesFrom low (cond t (p ∷ put_rising o ps) (o ∷ p ∷ ps))
rises-by low o p ps true e other le_o le_p rises later = let lt : p.kind < o.kind = ltb-true p.kind o.kind e in (le_p, later (omega arith))
rises-by low o p ps false e other le_o le_p rises later =
    let le : o.kind ≤ p.kind = ltb-false p.kind o.kind e in
    let apart : p.kind ≡ o.kind → ⊥ = eqb-false p.kind o.kind other in
    (le_o, (omega (arith, apart), rises))

pub put-rises : (low : ℕ) (o : Opaque) (ps : List Opaque) → low ≤ o.kind → has_kind o.kind ps ≡ false → RisesFrom low ps → RisesFrom low (put_rising o ps)
put-rises low o [] le new rises = (le, tt)
put-rises low o (p ∷ ps) le new rises =
    let parts = or_parts (eqb p.kind o.kind) (has_kind o.kind ps) new in
    rises-by low o p ps (ltb p.kind o.kind) refl parts.0 le rises.0 rises.1 (λ (more : p.kind + 1 ≤ o.kind). put-rises (p.kind + 1) o ps more parts.1 rises.1)

pub behind-rises : (k : ℕ) (os : List Opaque) → rise_behind k os ≡ true → RisesFrom (k + 1) os
behind-rises k [] e = tt
behind-rises k (o ∷ os) e =
    let parts = and_parts (ltb k o.kind) (rise_behind o.kind os) e in
    let lt : k < o.kind = ltb-true k o.kind parts.0 in
    (omega arith, behind-rises o.kind os parts.1)

pub rise-rises : (os : List Opaque) → rise os ≡ true → RisesFrom 0 os
rise-rises [] e = tt
rise-rises (o ∷ os) e = (omega arith, behind-rises o.kind os e)

pub rises-behind : (k low : ℕ) (os : List Opaque) → k < low → RisesFrom low os → rise_behind k os ≡ true
rises-behind k low [] lt r = refl
rises-behind k low (o ∷ os) lt r =
    let le : low ≤ o.kind = r.0 in
    and_from (ltb k o.kind) (rise_behind o.kind os) (lt-ltb k o.kind (omega arith)) (rises-behind o.kind (o.kind + 1) os (omega arith) r.1)

pub rises-rise : (low : ℕ) (os : List Opaque) → RisesFrom low os → rise os ≡ true
rises-rise low [] r = refl
rises-rise low (o ∷ os) r = rises-behind o.kind (o.kind + 1) os (omega arith) r.1

-- none below the first
rises-none : (k low : ℕ) (os : List Opaque) → k < low → RisesFrom low os → of_kind k os ≡ None
rises-none k low [] lt r = refl
rises-none k low (o ∷ os) lt r =
    let le : low ≤ o.kind = r.0 in
    let other : eqb o.kind k ≡ false = ne_eqb o.kind k (λ (e : o.kind ≡ k). absurd (omega arith)) in
    ap (λ (t : Bool). cond t (Some o) (of_kind k os)) other ∙ rises-none k (o.kind + 1) os (omega arith) r.1

-- ---- all of them

-- the types in the list are those that were seen
abbrev pub HasSeen : (ℕ → Bool) → List Opaque → Type 0
HasSeen seen there = (k : ℕ) → has_kind k there ≡ seen k

pub seen-more : (seen : ℕ → Bool) (o : Opaque) (there : List Opaque) → HasSeen seen there → HasSeen (also o.kind seen) (put_rising o there)
seen-more seen o there same k = put-has k o there ∙ ap₂ (λ (a b : Bool). a || b) (eqb-swap o.kind k) (same k)

or-by : (k : ℕ) (o : Opaque) (there os : List Opaque) (t : Bool) → eqb o.kind k ≡ t → has_kind o.kind there ≡ false
    → option_or (cond t (Some o) (of_kind k there)) (of_kind k os) ≡ option_or (of_kind k there) (cond t (Some o) (of_kind k os))
or-by k o there os true e new =
    let none : of_kind k there ≡ None = find-none (λ p. eqb p.kind k) there (ap (λ (j : ℕ). has_kind j there) (sym (eqb-true o.kind k e)) ∙ new) in
    ap (λ (x : Option Opaque). option_or x (Some o)) (sym none)
or-by k o there os false e new = refl

pub rising-find : (k : ℕ) (os there : List Opaque) (seen : ℕ → Bool) → HasSeen seen there → NoneTwice seen (kinds os) → of_kind k (rising_behind there os) ≡ option_or (of_kind k there) (of_kind k os)
rising-find k [] there seen same none = sym (or-none (of_kind k there))
rising-find k (o ∷ os) there seen same none =
    let new : has_kind o.kind there ≡ false = same o.kind ∙ none.0 in
    rising-find k os (put_rising o there) (also o.kind seen) (seen-more seen o there same) none.1
    ∙ ap (λ (x : Option Opaque). option_or x (of_kind k os)) (put-find k o there new)
    ∙ or-by k o there os (eqb o.kind k) refl new

pub rising-rises : (os there : List Opaque) (seen : ℕ → Bool) → HasSeen seen there → NoneTwice seen (kinds os) → RisesFrom 0 there → RisesFrom 0 (rising_behind there os)
rising-rises [] there seen same none rises = rises
rising-rises (o ∷ os) there seen same none rises =
    rising-rises os (put_rising o there) (also o.kind seen) (seen-more seen o there same) none.1 (put-rises 0 o there (omega arith) (same o.kind ∙ none.0) rises)

pub rising-all : (P : Opaque → Type 0) (os there : List Opaque) → AllByRecursion P there → AllByRecursion P os → AllByRecursion P (rising_behind there os)
rising-all P [] there all more = all
rising-all P (o ∷ os) there all more = rising-all P os (put_rising o there) (put-all P o there more.0 all) more.1

-- ---- a list that is ascending doesn't change

put-last : (o : Opaque) (there : List Opaque) → AllByRecursion (λ p. p.kind < o.kind) there → put_rising o there ≡ there ++ o ∷ []
put-last o [] below = refl
put-last o (p ∷ ps) below =
    ap (λ (t : Bool). cond t (p ∷ put_rising o ps) (o ∷ p ∷ ps)) (lt-ltb p.kind o.kind below.0)
    ∙ ap (λ (os : List Opaque). p ∷ os) (put-last o ps below.1)

pub rising-same : (os there : List Opaque) (low : ℕ) → RisesFrom low os → AllByRecursion (λ p. p.kind < low) there → rising_behind there os ≡ there ++ os
rising-same [] there low rises below = sym (append-nil there)
rising-same (o ∷ os) there low rises below =
    let le : low ≤ o.kind = rises.0 in
    let under = all-more (λ p. p.kind < low) (λ p. p.kind < o.kind) there (λ p lt. omega arith) below in
    let under_next = all-more (λ p. p.kind < low) (λ p. p.kind < o.kind + 1) there (λ p lt. omega arith) below in
    ap (λ (t : List Opaque). rising_behind t os) (put-last o there under)
    ∙ rising-same os (there ++ o ∷ []) (o.kind + 1) rises.1 (all-append (λ p. p.kind < o.kind + 1) there (o ∷ []) under_next (omega arith, tt))
    ∙ append_assoc there (o ∷ []) os

-- ---- found by type, in the order of the types

abbrev pub listed : Option Opaque → List Opaque
listed None = []
listed (Some o) = o ∷ []

types-agree : (f g : ℕ → List Opaque) (low n : ℕ) → ((k : ℕ) → low ≤ k → f k ≡ g k) → flat_map f (types_from low n) ≡ flat_map g (types_from low n)
types-agree f g low zero same = refl
types-agree f g low (suc n) same =
    ap₂ (λ (a b : List Opaque). a ++ b) (same low (omega arith)) (types-agree f g (low + 1) n (λ (k : ℕ) (le : low + 1 ≤ k). same k (omega arith)))

first-by : (o : Opaque) (os : List Opaque) (low n : ℕ) (t : Bool) → eqb o.kind low ≡ t → RisesFrom low (o ∷ os) → AllByRecursion (λ p. p.kind < low + suc n) (o ∷ os)
    → ((ps : List Opaque) → RisesFrom (low + 1) ps → AllByRecursion (λ p. p.kind < low + 1 + n) ps → flat_map (λ k. listed (of_kind k ps)) (types_from (low + 1) n) ≡ ps)
    → listed (cond t (Some o) (of_kind low os)) ++ flat_map (λ k. listed (of_kind k (o ∷ os))) (types_from (low + 1) n) ≡ o ∷ os
first-by o os low n true e rises small later =
    let same : o.kind ≡ low = eqb-true o.kind low e in
    let rest : RisesFrom (low + 1) os = let P : ℕ → Type 0 = λ k. RisesFrom (k + 1) os in rw (ap P same) at rises.1 in
    ap (λ (b : List Opaque). o ∷ b) (
    types-agree (λ k. listed (of_kind k (o ∷ os))) (λ k. listed (of_kind k os)) (low + 1) n (λ (k : ℕ) (le : low + 1 ≤ k).
    ap (λ (t : Bool). listed (cond t (Some o) (of_kind k os))) (ne_eqb o.kind k (λ (f : o.kind ≡ k). absurd (omega arith))))
    ∙ later os rest (all-more (λ p. p.kind < low + suc n) (λ p. p.kind < low + 1 + n) os (λ p lt. omega arith) small.1))
first-by o os low n false e rises small later =
    let le : low ≤ o.kind = rises.0 in
    let apart : o.kind ≡ low → ⊥ = eqb-false o.kind low e in
    ap (λ (x : Option Opaque). listed x ++ flat_map (λ k. listed (of_kind k (o ∷ os))) (types_from (low + 1) n)) (rises-none low (o.kind + 1) os (omega arith) rises.1)
    ∙ later (o ∷ os) (omega (arith, apart), rises.1) (all-more (λ p. p.kind < low + suc n) (λ p. p.kind < low + 1 + n) (o ∷ os) (λ p lt. omega arith) small)

pub types-find : (n low : ℕ) (os : List Opaque) → RisesFrom low os → AllByRecursion (λ o. o.kind < low + n) os → flat_map (λ k. listed (of_kind k os)) (types_from low n) ≡ os
types-find zero low [] rises small = refl
types-find zero low (o ∷ os) rises small = let le : low ≤ o.kind = rises.0 in let lt : o.kind < low + 0 = small.0 in absurd (omega arith)
types-find (suc n) low [] rises small = flat_map-none (λ k. listed (of_kind k [])) (types_from low (suc n)) (λ k. refl)
types-find (suc n) low (o ∷ os) rises small = first-by o os low n (eqb o.kind low) refl rises small (types-find n (low + 1))
