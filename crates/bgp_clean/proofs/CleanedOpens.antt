-- An OPEN with only the capabilities that are understood: it can be written where the OPEN was read, says the same, and stays so when cleaned again.
use Rattle.bgp_clean.proofs.Prelude.{◌≡◌, ℕ, zero, suc, ◌<◌, ◌≤◌, ◌^◌, Bool, true, false, ◌||◌, cond, eqb, List, [], ◌∷◌, ◌++◌, length, Option, Some, refl}
use Rattle.bgp_clean.proofs.Prelude.{sym, ap, ap₂, subst, ◌∙◌, arith, w16, w32, from_be_bytes, list_any, AllByRecursion, or_parts, unwrap_or, true≢false}
use Rattle.bgp_clean.proofs.Prelude.{length-append, same_Some, none-some, IPV4, IPV6, AreOctets, Row, AreOctets-front, AreOctets-back, AreOctets-drop}
use Rattle.bgp_clean.proofs.Prelude.{Capability, Multi, As4, Other, Open, peer_as_of, multi_of, as4_of, IsCapability, parameters_of, joined, IsOpen}
use Rattle.bgp_clean.proofs.Prelude.{IsParameter, first_as4, is_unicast, row_octets, parameter_octets, HasRange, all-append, Seen, goes_on}
use Rattle.bgp_clean.proofs.Prelude.{seen_behind, seen_for, understood_behind, understood_with, cleaned_open_with, is_multi, lacks_family}
use Rattle.bgp_clean.proofs.Understood.{row-shorter}
use Rattle.bgp_numbers.specs.declared.capability.TheConstants.{MULTIPROTOCOL, FOUR_OCTET_AS, ROUTE_REFRESH, ENHANCED_ROUTE_REFRESH}
use Rattle.bgp_terms.specs.declared.refreshes.Refreshes.{Refreshes}
use Rattle.bgp_terms.specs.Prelude.{offers_plain}
use Rattle.bgp_numbers.specs.declared.parameter.TheConstants.{CAPABILITIES}
use Rattle.bgp_open.specs.Prelude.{canonical, HasRanges}

-- ---- those that are understood

-- what isn't passed on adds nothing to what was seen
unseen-by : (seen u : Bool) → cond seen false u ≡ false → (seen || u) ≡ seen
unseen-by true u e = refl
unseen-by false u e = e

as4-seen : (seen : Bool) → cond seen false true ≡ false → true ≡ seen
as4-seen true e = refl
as4-seen false e = absurd (true≢false e)

unseen : (seen : Seen) (c : Capability) → goes_on seen c ≡ false → seen_behind seen c ≡ seen
unseen seen (Multi family subsequent) e =
    let p = or_parts (cond seen.ip4 false (is_unicast IPV4 (Multi family subsequent))) (cond seen.ip6 false (is_unicast IPV6 (Multi family subsequent))) e in
    ap₂ (λ (x y : Bool). record seen { ip4 = x; ip6 = y })
    (unseen-by seen.ip4 (is_unicast IPV4 (Multi family subsequent)) p.0) (unseen-by seen.ip6 (is_unicast IPV6 (Multi family subsequent)) p.1)
unseen seen (As4 number) e = ap (λ (x : Bool). record seen { as4 = x }) (as4-seen seen.as4 e)
unseen seen (Other code value) e =
    let p = or_parts (cond seen.refresh false (offers_plain ROUTE_REFRESH (Other code value))) (cond seen.enhanced false (offers_plain ENHANCED_ROUTE_REFRESH (Other code value))) e in
    ap₂ (λ (x y : Bool). record seen { refresh = x; enhanced = y })
    (unseen-by seen.refresh (offers_plain ROUTE_REFRESH (Other code value)) p.0) (unseen-by seen.enhanced (offers_plain ENHANCED_ROUTE_REFRESH (Other code value)) p.1)

again-by : (seen : Seen) (c : Capability) (rest : List Capability) (t : Bool) → goes_on seen c ≡ t → understood_behind (seen_behind seen c) rest ≡ rest
    → understood_behind seen (cond t (c ∷ rest) rest) ≡ cond t (c ∷ rest) rest
again-by seen c rest true e same =
    ap (λ (t : Bool). cond t (c ∷ understood_behind (seen_behind seen c) rest) (understood_behind (seen_behind seen c) rest)) e
    ∙ ap (λ (cs : List Capability). c ∷ cs) same
again-by seen c rest false e same = ap (λ (s : Seen). understood_behind s rest) (sym (unseen seen c e)) ∙ same

understood-again : (seen : Seen) (caps : List Capability) → understood_behind seen (understood_behind seen caps) ≡ understood_behind seen caps
understood-again seen [] = refl
understood-again seen (c ∷ later) = again-by seen c (understood_behind (seen_behind seen c) later) (goes_on seen c) refl (understood-again (seen_behind seen c) later)

-- what holds of each holds of those that are passed on
understood-all : (P : Capability → Type 0) (seen : Seen) (caps : List Capability) → AllByRecursion P caps → AllByRecursion P (understood_behind seen caps)
understood-all P seen [] all = tt
understood-all P seen (c ∷ later) all = by (goes_on seen c) (understood-all P (seen_behind seen c) later all.1)
  where
    by : (t : Bool) → AllByRecursion P (understood_behind (seen_behind seen c) later)
        → AllByRecursion P (cond t (c ∷ understood_behind (seen_behind seen c) later) (understood_behind (seen_behind seen c) later))
    by true rest = (all.0, rest)
    by false rest = rest

-- ---- what they say

as4-by : (c : Capability) (rest : List Capability) (t : Bool) → ((cs : List Capability) → first_as4 (c ∷ cs) ≡ first_as4 cs)
    → first_as4 (cond t (c ∷ rest) rest) ≡ first_as4 rest
as4-by c rest true past = past rest
as4-by c rest false past = refl

first_as4-same : (seen : Seen) (caps : List Capability) → seen.as4 ≡ false → first_as4 (understood_behind seen caps) ≡ first_as4 caps
first_as4-same seen [] e = refl
first_as4-same seen (Multi family subsequent ∷ later) e =
    as4-by (Multi family subsequent) (understood_behind (seen_behind seen (Multi family subsequent)) later) (goes_on seen (Multi family subsequent)) (λ cs. refl)
    ∙ first_as4-same (seen_behind seen (Multi family subsequent)) later e
first_as4-same seen (As4 number ∷ later) e =
    let rest : List Capability = understood_behind (seen_behind seen (As4 number)) later in
    ap (λ (t : Bool). first_as4 (cond (cond t false true) (As4 number ∷ rest) rest)) e
first_as4-same seen (Other code value ∷ later) e =
    as4-by (Other code value) (understood_behind (seen_behind seen (Other code value)) later) (goes_on seen (Other code value)) (λ cs. refl)
    ∙ first_as4-same (seen_behind seen (Other code value)) later e

-- a family that is understood is one of the two
abbrev Offers : Capability → Type 0
Offers c = is_multi c ≡ (is_unicast IPV4 c || is_unicast IPV6 c)

offers-by : (seen4 seen6 u4 u6 : Bool) → (cond seen4 false u4 || cond seen6 false u6) ≡ true → true ≡ (u4 || u6)
offers-by seen4 seen6 true u6 e = refl
offers-by seen4 seen6 false true e = refl
offers-by true true false false e = sym e
offers-by true false false false e = sym e
offers-by false true false false e = sym e
offers-by false false false false e = sym e

goes-offers : (seen : Seen) (c : Capability) → goes_on seen c ≡ true → Offers c
goes-offers seen (Multi family subsequent) e = offers-by seen.ip4 seen.ip6 (is_unicast IPV4 (Multi family subsequent)) (is_unicast IPV6 (Multi family subsequent)) e
goes-offers seen (As4 number) e = refl
goes-offers seen (Other code value) e = refl

understood-offers : (seen : Seen) (caps : List Capability) → AllByRecursion Offers (understood_behind seen caps)
understood-offers seen [] = tt
understood-offers seen (c ∷ later) = by (goes_on seen c) refl (understood-offers (seen_behind seen c) later)
  where
    by : (t : Bool) → goes_on seen c ≡ t → AllByRecursion Offers (understood_behind (seen_behind seen c) later)
        → AllByRecursion Offers (cond t (c ∷ understood_behind (seen_behind seen c) later) (understood_behind (seen_behind seen c) later))
    by true e rest = (goes-offers seen c e, rest)
    by false e rest = rest

or-turned : (a b x y : Bool) → ((a || b) || (x || y)) ≡ ((a || x) || (b || y))
or-turned true b x y = refl
or-turned false true true y = refl
or-turned false true false y = refl
or-turned false false x y = refl

offers-any : (caps : List Capability) → AllByRecursion Offers caps → list_any is_multi caps ≡ (list_any (is_unicast IPV4) caps || list_any (is_unicast IPV6) caps)
offers-any [] all = refl
offers-any (c ∷ caps) all =
    ap₂ (λ (x y : Bool). x || y) all.0 (offers-any caps all.1)
    ∙ or-turned (is_unicast IPV4 c) (is_unicast IPV6 c) (list_any (is_unicast IPV4) caps) (list_any (is_unicast IPV6) caps)

lacks-by : (any has : Bool) → any ≡ has → cond any (cond has false true) false ≡ false
lacks-by true true e = refl
lacks-by true false e = e
lacks-by false has e = refl

-- ---- what was read

two-small : (b : List ℕ) → AreOctets b → from_be_bytes w16 b < 2 ^ 16
two-small b octets = omega (arith, octets 0, octets 1)

four-small : (b : List ℕ) → AreOctets b → from_be_bytes w32 b < 2 ^ 32
four-small b octets = omega (arith, octets 0, octets 1, octets 2, octets 3)

abbrev one : Capability → Option Capability
one c = Some c

multi-range : (value : List ℕ) (c : Capability) → AreOctets value → multi_of value ≡ Some c → HasRange c
multi-range (high ∷ low ∷ reserved ∷ subsequent ∷ []) c octets e =
    subst HasRange (same_Some _ c e) (two-small (high ∷ low ∷ []) (AreOctets-front (high ∷ low ∷ []) (reserved ∷ subsequent ∷ []) octets), octets 3)
multi-range [] c octets e = absurd (none-some c e)
multi-range (a ∷ []) c octets e = absurd (none-some c e)
multi-range (a ∷ b ∷ []) c octets e = absurd (none-some c e)
multi-range (a ∷ b ∷ d ∷ []) c octets e = absurd (none-some c e)
multi-range (a ∷ b ∷ d ∷ f ∷ g ∷ more) c octets e = absurd (none-some c e)

as4-range : (value : List ℕ) (c : Capability) → AreOctets value → as4_of value ≡ Some c → HasRange c
as4-range (x ∷ y ∷ z ∷ w ∷ []) c octets e = subst HasRange (same_Some _ c e) (four-small (x ∷ y ∷ z ∷ w ∷ []) octets)
as4-range [] c octets e = absurd (none-some c e)
as4-range (a ∷ []) c octets e = absurd (none-some c e)
as4-range (a ∷ b ∷ []) c octets e = absurd (none-some c e)
as4-range (a ∷ b ∷ d ∷ []) c octets e = absurd (none-some c e)
as4-range (a ∷ b ∷ d ∷ f ∷ g ∷ more) c octets e = absurd (none-some c e)

range-by : (code : ℕ) (value : List ℕ) (c : Capability) (t u : Bool) → code < 256 → AreOctets value
    → cond t (multi_of value) (cond u (as4_of value) (one (Other code value))) ≡ Some c → HasRange c
range-by code value c true u small octets e = multi-range value c octets e
range-by code value c false true small octets e = as4-range value c octets e
range-by code value c false false small octets e = subst HasRange (same_Some (Other code value) c e) (small, octets)

capability-range : (c : Capability) (b : List ℕ) → AreOctets b → IsCapability c b → HasRange c
capability-range c b octets s =
    let all : AreOctets (s.code ∷ length s.value ∷ s.value) = subst AreOctets s.octets octets in
    range-by s.code s.value c (eqb s.code MULTIPROTOCOL) (eqb s.code FOUR_OCTET_AS) (all 0) (AreOctets-back (s.code ∷ length s.value ∷ []) s.value all) s.means

row-ranges : (caps : List Capability) (b : List ℕ) → AreOctets b → Row IsCapability caps b → AllByRecursion HasRange caps
row-ranges [] b octets row = tt
row-ranges (c ∷ caps) b octets row =
    let all : AreOctets (row.0 ++ row.1) = subst AreOctets row.2 octets in
    (capability-range c row.0 (AreOctets-front row.0 row.1 all) row.3, row-ranges caps row.1 (AreOctets-back row.0 row.1 all) row.4)

parameters-ranges : (ps : List (List Capability)) (b : List ℕ) → AreOctets b → Row IsParameter ps b → AllByRecursion HasRange (joined ps)
parameters-ranges [] b octets row = tt
parameters-ranges (p ∷ ps) b octets row =
    let all : AreOctets (row.0 ++ row.1) = subst AreOctets row.2 octets in
    let parameter = row.3 in
    let held = parameter.holds in
    let value : AreOctets parameter.value = AreOctets-drop 1 (CAPABILITIES ∷ parameter.value) (subst AreOctets parameter.octets (AreOctets-front row.0 row.1 all)) in
    let inside : AreOctets held.row = AreOctets-drop 1 (length held.row ∷ held.row) (subst AreOctets held.octets value) in
    all-append HasRange p (joined ps) (row-ranges p held.row inside held.spelled) (parameters-ranges ps row.1 (AreOctets-back row.0 row.1 all) row.4)

pub read-ranges : (o : Open) (body : List ℕ) → AreOctets body → IsOpen o body → HasRanges o
read-ranges o body octets s = record {
  as_field = subst (λ (n : ℕ). n < 2 ^ 16) (sym s.as_field) (omega (arith, octets 1, octets 2));
  hold = subst (λ (n : ℕ). n < 2 ^ 16) (sym s.hold) (omega (arith, octets 3, octets 4));
  id = ap length s.id;
  id_octets = subst AreOctets (sym s.id) (id-octets (octets 5) (octets 6) (octets 7) (octets 8));
  caps =
      subst (λ (caps : List Capability). AllByRecursion HasRange caps) (sym s.caps)
      (parameters-ranges s.parameters (parameters_of body) (AreOctets-drop 10 body octets) s.row);
}
  where
    id-octets : {a b c d : ℕ} → a < 256 → b < 256 → c < 256 → d < 256 → AreOctets (a ∷ b ∷ c ∷ d ∷ [])
    id-octets p q r t zero = p
    id-octets p q r t (suc zero) = q
    id-octets p q r t (suc (suc zero)) = r
    id-octets p q r t (suc (suc (suc zero))) = t
    id-octets p q r t (suc (suc (suc (suc i)))) = omega arith

-- ---- the OPEN that is passed on

parameter-shorter : (row more : List ℕ) → length row ≤ length more → length (parameter_octets row) ≤ length (parameter_octets more)
parameter-shorter [] more le = omega arith
parameter-shorter (x ∷ row) [] le = absurd (omega arith)
parameter-shorter (x ∷ row) (y ∷ more) le = omega arith

as4_unseen : (offers : Refreshes) → (seen_for offers).as4 ≡ false
as4_unseen Refreshes.None = refl
as4_unseen Refreshes.Plain = refl
as4_unseen Refreshes.Enhanced = refl

module _ (offers : Refreshes) (o : Open) where
  pub cleaned-ranges : HasRanges o → HasRanges (cleaned_open_with offers o)
  cleaned-ranges r = record { as_field = r.as_field; hold = r.hold; id = r.id; id_octets = r.id_octets; caps = understood-all HasRange (seen_for offers) o.caps r.caps }

  pub cleaned-shorter : length (canonical (cleaned_open_with offers o)) ≤ length (canonical o)
  cleaned-shorter =
      let row : List ℕ = row_octets o.caps in
      let fewer : List ℕ = row_octets (understood_with offers o.caps) in
      omega (
        arith,
        parameter-shorter fewer row (row-shorter (seen_for offers) o.caps),
        length-append o.id (length (parameter_octets row) ∷ parameter_octets row),
        length-append o.id (length (parameter_octets fewer) ∷ parameter_octets fewer),
      )

  pub cleaned-again : cleaned_open_with offers (cleaned_open_with offers o) ≡ cleaned_open_with offers o
  cleaned-again = ap (λ (caps : List Capability). record o { caps = caps }) (understood-again (seen_for offers) o.caps)

  -- it offers no families, or one of the two
  pub cleaned-lacks_none : lacks_family (cleaned_open_with offers o) ≡ false
  cleaned-lacks_none = lacks-by (list_any is_multi (understood_with offers o.caps)) _ (offers-any (understood_with offers o.caps) (understood-offers (seen_for offers) o.caps))

  pub cleaned-peer_as : peer_as_of (cleaned_open_with offers o) ≡ peer_as_of o
  cleaned-peer_as = ap (λ (as4 : Option ℕ). unwrap_or as4 o.as_field) (first_as4-same (seen_for offers) o.caps (as4_unseen offers))
