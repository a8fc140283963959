-- Routes of other address families as octets: what is written is read back, and what is read is spelled and can be written.
use Rattle.bgp_wire.proofs.Std.{◌≡◌, ℕ, suc, ◌+◌, ◌<◌, ◌≤◌, Bool, true, false, not, cond, eqb, ltb, List, [], ◌∷◌, ◌++◌, length, take, drop, Option, Some, None, refl, sym, ap, ap₂, subst, ◌∙◌, append_assoc, arith, AllByRecursion, w16, to_be_bytes, le-ltb, not-false, be_bytes_2, take_at, drop_at, take-append-drop, nil_from_length}
use Rattle.std.proofs.lemmas.Bool.{eqb-true, eq-eqb, ne_eqb}
use Rattle.std.proofs.lemmas.List.{length-append, length-take, length-drop}
use Rattle.bgp_numbers.specs.declared.afi.TheConstants.{IPV4, IPV6}
use Rattle.bgp_numbers.specs.declared.safi.TheConstants.{UNICAST}
use Rattle.bgp_prefix.specs.Prelude.{PrefixValue, IsValid, IsPrefix, one_prefix, run_of}
use Rattle.bgp_prefix.proofs.PrefixLemmas.{IsPrefix-reads, IsPrefix-valid}
use Rattle.bgp_prefix.proofs.RunLemmas.{Row-prefixes}
use Rattle.bgp_prefix.proofs.LawLemmas.{row_is_run, Row-rewritten}
use Rattle.bgp_wire.specs.Prelude.{AreOctets, Row}
use Rattle.bgp_wire.proofs.OctetLemmas.{AreOctets-front, AreOctets-back, AreOctets-drop}
use Rattle.bgp_wire.proofs.Behinds.{Row-pieces}
use Rattle.bgp_attr.specs.declared.family.Family.{Family}
use Rattle.bgp_attr.specs.Prelude.{afi_of, safi_of, family_of, next_hop_length, next_hop_of, reached_of, mp_reach_of, withdrawn_of, mp_unreach_of, has_bad_prefix, IsReach, link_octets, HasLink, IsUnreach, run_octets, reach_row, unreach_row}
use Rattle.bgp_attr.specs.declared.family.Family.TheVariants as family
use Rattle.bgp_attr.specs.declared.mp.MpReach.TheVariants as reach
use Rattle.bgp_attr.specs.declared.mp.MpUnreach.TheVariants as unreach

-- ---- rows of prefixes

pub prefixes-valid : (width : ℕ) (ps : List PrefixValue) (b : List ℕ) → AreOctets b → Row (IsPrefix width) ps b → AllByRecursion (IsValid width) ps
prefixes-valid width [] b octets row = tt
prefixes-valid width (p ∷ ps) b octets row =
    let joined : AreOctets (row.0 ++ row.1) = subst AreOctets row.2 octets in
    (IsPrefix-valid width p row.0 (AreOctets-front row.0 row.1 joined) row.3, prefixes-valid width ps row.1 (AreOctets-back row.0 row.1 joined) row.4)

run-whole : (width : ℕ) (b : List ℕ) → has_bad_prefix width b ≡ false → Row (IsPrefix width) (run_of width b).0 b
run-whole width b good =
    let none : (run_of width b).1 ≡ [] = nil_from_length (run_of width b).1 (eqb-true _ 0 (not-false _ good)) in
    Row-pieces PrefixValue (IsPrefix width) (one_prefix width) (IsPrefix-reads width) b (run_of width b).0 (ap (λ (r : List ℕ). ((run_of width b).0, r)) none)

good-run : (width : ℕ) (b : List ℕ) (ps : List PrefixValue) → Row (IsPrefix width) ps b → has_bad_prefix width b ≡ false
good-run width b ps row = ap (λ (q : List PrefixValue × List ℕ). not (eqb (length q.1) 0)) (row_is_run width ps b row)

-- ---- families

family-ip4 : (s p q : Bool) → cond (not s) None (cond p (Some family.Ip4) (cond q (Some family.Ip6) None)) ≡ Some family.Ip4 → (s ≡ true) × (p ≡ true)
family-ip4 false p q e = absurd cc
family-ip4 true true q e = (refl, refl)
family-ip4 true false true e = absurd cc
family-ip4 true false false e = absurd cc

family-ip6 : (s p q : Bool) → cond (not s) None (cond p (Some family.Ip4) (cond q (Some family.Ip6) None)) ≡ Some family.Ip6 → (s ≡ true) × (q ≡ true)
family-ip6 false p q e = absurd cc
family-ip6 true true q e = absurd cc
family-ip6 true false true e = (refl, refl)
family-ip6 true false false e = absurd cc

-- the number of a family
abbrev pub afi_number : Family → ℕ
afi_number family.Ip4 = IPV4
afi_number family.Ip6 = IPV6

pub family-numbers : (value : List ℕ) (f : Family) → family_of value ≡ Some f → (safi_of value ≡ UNICAST) × (afi_of value ≡ afi_number f)
family-numbers value family.Ip4 e =
    let p = family-ip4 (eqb (safi_of value) UNICAST) (eqb (afi_of value) IPV4) (eqb (afi_of value) IPV6) e in
    (eqb-true _ _ p.0, eqb-true _ _ p.1)
family-numbers value family.Ip6 e =
    let p = family-ip6 (eqb (safi_of value) UNICAST) (eqb (afi_of value) IPV4) (eqb (afi_of value) IPV6) e in
    (eqb-true _ _ p.0, eqb-true _ _ p.1)

-- the octets of a family's number are at the front
pub family-front : (a b c : ℕ) (rest : List ℕ) (f : Family) → AreOctets (a ∷ b ∷ c ∷ rest) → family_of (a ∷ b ∷ c ∷ rest) ≡ Some f
    → a ∷ b ∷ c ∷ rest ≡ to_be_bytes w16 (afi_number f) ++ (UNICAST ∷ rest)
family-front a b c rest f octets e =
    let numbers = family-numbers (a ∷ b ∷ c ∷ rest) f e in
    let two : to_be_bytes w16 (afi_number f) ≡ a ∷ b ∷ [] = be_bytes_2 (a ∷ b ∷ []) (afi_number f) refl (AreOctets-front (a ∷ b ∷ []) (c ∷ rest) octets) (sym numbers.1) in
    sym (ap₂ (λ (x : List ℕ) (s : ℕ). x ++ (s ∷ rest)) two (sym numbers.0))

-- ---- routes that are reached

module _ (f : Family) (width : ℕ) (hop : List ℕ) (routes : List PrefixValue) (b : List ℕ) (s : IsReach (afi_number f) width hop routes b) where
  pub reach-family : family_of b ≡ Some f
  reach-family = ap family_of s.octets ∙ at f
    where
      at : (f : Family) → family_of (to_be_bytes w16 (afi_number f) ++ (UNICAST ∷ length hop ∷ (hop ++ (s.reserved ∷ s.row)))) ≡ Some f
      at family.Ip4 = refl
      at family.Ip6 = refl

  pub reach-hop_length : next_hop_length b ≡ length hop
  reach-hop_length = ap next_hop_length s.octets

  pub reach-hop : next_hop_of b ≡ hop ++ (s.reserved ∷ s.row)
  reach-hop = ap next_hop_of s.octets

  pub reach-length : length b ≡ 5 + length hop + length s.row
  reach-length = ap length s.octets ∙ omega (arith, length-append hop (s.reserved ∷ s.row))

  pub reach-rest : reached_of b ≡ s.row
  reach-rest =
      let front : List ℕ = to_be_bytes w16 (afi_number f) ++ (UNICAST ∷ length hop ∷ (hop ++ s.reserved ∷ [])) in
      let long : length front ≡ 5 + length hop = omega (arith, length-append hop (s.reserved ∷ [])) in
      let cut : b ≡ front ++ s.row =
      s.octets ∙ ap (λ (x : List ℕ). to_be_bytes w16 (afi_number f) ++ (UNICAST ∷ length hop ∷ x)) (sym (append_assoc hop (s.reserved ∷ []) s.row)) in
      ap (λ (n : ℕ). drop (5 + n) b) reach-hop_length ∙ ap (λ (x : List ℕ). drop (5 + length hop) x) cut
      ∙ drop_at front s.row (5 + length hop) long

  pub reach-run : (run_of width (reached_of b)).0 ≡ routes
  reach-run = ap (λ (x : List ℕ). (run_of width x).0) reach-rest ∙ ap (λ (q : List PrefixValue × List ℕ). q.0) (row_is_run width routes s.row s.prefixes)

  pub reach-good : has_bad_prefix width (reached_of b) ≡ false
  reach-good = ap (has_bad_prefix width) reach-rest ∙ good-run width s.row routes s.prefixes

  pub reach-long : ltb (length b) 5 ≡ false
  reach-long = le-ltb _ 5 (omega (arith, reach-length))

  pub reach-longer : ltb (length b) (5 + next_hop_length b) ≡ false
  reach-longer = le-ltb _ _ (omega (arith, reach-length, reach-hop_length))

pub reach4-value : (hop : List ℕ) (routes : List PrefixValue) (b : List ℕ) → length hop ≡ 4 → IsReach IPV4 4 hop routes b → mp_reach_of b ≡ reach.Ip4 hop routes
reach4-value hop routes b four s =
    let first : take 4 (next_hop_of b) ≡ hop = ap (take 4) (reach-hop family.Ip4 4 hop routes b s) ∙ take_at hop (s.reserved ∷ s.row) 4 four in
    rw (reach-family family.Ip4 4 hop routes b s) (ap₂ (λ (x : List ℕ) (ps : List PrefixValue). reach.Ip4 x ps) first (reach-run family.Ip4 4 hop routes b s))

-- the second address of a next hop
link-back : (hop : List ℕ) (link : Option (List ℕ)) (rest : List ℕ) (n : ℕ) → length hop ≡ 16 → HasLink link → n ≡ length (hop ++ link_octets link)
    → cond (eqb n 32) (Some (take 16 (drop 16 ((hop ++ link_octets link) ++ rest)))) None ≡ link
link-back hop None rest n wide has is =
    let other : eqb n 32 ≡ false = ne_eqb n 32 (λ (e : n ≡ 32). absurd (omega (arith, length-append hop []))) in
    rw other refl
link-back hop (Some addr) rest n wide has is =
    let sixteen : length addr ≡ 16 = has.wide in
    let both : eqb n 32 ≡ true = eq-eqb n 32 (omega (arith, length-append hop addr)) in
    let behind : drop 16 ((hop ++ addr) ++ rest) ≡ addr ++ rest = ap (drop 16) (append_assoc hop addr rest) ∙ drop_at hop (addr ++ rest) 16 wide in
    let second : take 16 (drop 16 ((hop ++ addr) ++ rest)) ≡ addr = ap (take 16) behind ∙ take_at addr rest 16 sixteen in
    rw both (ap (λ (x : List ℕ). Some x) second)

same-reach6 : (x y : List ℕ) (l m : Option (List ℕ)) (ps qs : List PrefixValue) → x ≡ y → l ≡ m → ps ≡ qs → reach.Ip6 x l ps ≡ reach.Ip6 y m qs
same-reach6 x y l m ps qs e f g = rw (e, f, g) refl

pub reach6-value : (hop : List ℕ) (link : Option (List ℕ)) (routes : List PrefixValue) (b : List ℕ) → length hop ≡ 16 → HasLink link → IsReach IPV6 16 (hop ++ link_octets link) routes b
    → mp_reach_of b ≡ reach.Ip6 hop link routes
reach6-value hop link routes b wide has s =
    let all : List ℕ = hop ++ link_octets link in
    let after : List ℕ = s.reserved ∷ s.row in
    let behind : next_hop_of b ≡ all ++ after = reach-hop family.Ip6 16 all routes b s in
    let first : take 16 (next_hop_of b) ≡ hop =
    ap (take 16) (behind ∙ append_assoc hop (link_octets link) after) ∙ take_at hop (link_octets link ++ after) 16 wide in
    let second : cond (eqb (next_hop_length b) 32) (Some (take 16 (drop 16 (next_hop_of b)))) None ≡ link =
    ap (λ (x : List ℕ). cond (eqb (next_hop_length b) 32) (Some (take 16 (drop 16 x))) None) behind
    ∙ link-back hop link after (next_hop_length b) wide has (reach-hop_length family.Ip6 16 all routes b s) in
    rw (reach-family family.Ip6 16 all routes b s) (same-reach6 _ _ _ _ _ _ first second (reach-run family.Ip6 16 all routes b s))

-- the octets that are written spell the routes
pub reach_row-spells : (f : Family) (width : ℕ) (hop : List ℕ) (routes : List PrefixValue) → AllByRecursion (IsValid width) routes → IsReach (afi_number f) width hop routes (reach_row (afi_number f) hop routes)
reach_row-spells f width hop routes valid = record { reserved = 0; row = run_octets routes; octets = refl; prefixes = Row-prefixes width routes valid }

-- ---- routes that are withdrawn

module _ (f : Family) (width : ℕ) (routes : List PrefixValue) (b : List ℕ) (s : IsUnreach (afi_number f) width routes b) where
  pub unreach-family : family_of b ≡ Some f
  unreach-family = ap family_of s.octets ∙ at f
    where
      at : (f : Family) → family_of (to_be_bytes w16 (afi_number f) ++ (UNICAST ∷ s.row)) ≡ Some f
      at family.Ip4 = refl
      at family.Ip6 = refl

  pub unreach-rest : withdrawn_of b ≡ s.row
  unreach-rest = ap withdrawn_of s.octets

  pub unreach-run : (run_of width (withdrawn_of b)).0 ≡ routes
  unreach-run = ap (λ (x : List ℕ). (run_of width x).0) unreach-rest ∙ ap (λ (q : List PrefixValue × List ℕ). q.0) (row_is_run width routes s.row s.prefixes)

  pub unreach-good : has_bad_prefix width (withdrawn_of b) ≡ false
  unreach-good = ap (has_bad_prefix width) unreach-rest ∙ good-run width s.row routes s.prefixes

  pub unreach-long : ltb (length b) 3 ≡ false
  unreach-long = le-ltb _ 3 (omega (arith, ap length s.octets))

pub unreach4-value : (routes : List PrefixValue) (b : List ℕ) → IsUnreach IPV4 4 routes b → mp_unreach_of b ≡ unreach.Ip4 routes
unreach4-value routes b s = rw (unreach-family family.Ip4 4 routes b s) (ap (λ (ps : List PrefixValue). unreach.Ip4 ps) (unreach-run family.Ip4 4 routes b s))

pub unreach6-value : (routes : List PrefixValue) (b : List ℕ) → IsUnreach IPV6 16 routes b → mp_unreach_of b ≡ unreach.Ip6 routes
unreach6-value routes b s = rw (unreach-family family.Ip6 16 routes b s) (ap (λ (ps : List PrefixValue). unreach.Ip6 ps) (unreach-run family.Ip6 16 routes b s))

pub unreach_row-spells : (f : Family) (width : ℕ) (routes : List PrefixValue) → AllByRecursion (IsValid width) routes → IsUnreach (afi_number f) width routes (unreach_row (afi_number f) routes)
unreach_row-spells f width routes valid = record { row = run_octets routes; octets = refl; prefixes = Row-prefixes width routes valid }

-- ---- from octets

first_of : (l : List ℕ) → 0 < length l → (x : ℕ) × (xs : List ℕ) × (l ≡ x ∷ xs)
first_of [] some = absurd (omega arith)
first_of (x ∷ xs) some = (x, xs, refl)

-- the octets after the reserved one
rest-at : (a b c : ℕ) (hop : List ℕ) (reserved : ℕ) (row : List ℕ) → drop (5 + length hop) (a ∷ b ∷ c ∷ length hop ∷ (hop ++ (reserved ∷ row))) ≡ row
rest-at a b c hop reserved row =
    let long : length (a ∷ b ∷ c ∷ length hop ∷ (hop ++ reserved ∷ [])) ≡ 5 + length hop = omega (arith, length-append hop (reserved ∷ [])) in
    ap (λ (x : List ℕ). drop (5 + length hop) (a ∷ b ∷ c ∷ length hop ∷ x)) (sym (append_assoc hop (reserved ∷ []) row))
    ∙ drop_at (a ∷ b ∷ c ∷ length hop ∷ (hop ++ reserved ∷ [])) row (5 + length hop) long

-- the next hop, of the length given
abbrev pub hop_in : List ℕ → List ℕ
hop_in value = take (next_hop_length value) (next_hop_of value)

pub hop_in-length : (value : List ℕ) → 5 + next_hop_length value ≤ length value → length (hop_in value) ≡ next_hop_length value
hop_in-length value longer = omega (arith, length-take (next_hop_length value) (next_hop_of value), length-drop 4 value)

pub octets-reach : (f : Family) (width : ℕ) (value : List ℕ) → AreOctets value → family_of value ≡ Some f → 5 ≤ length value → 5 + next_hop_length value ≤ length value
    → has_bad_prefix width (reached_of value) ≡ false → IsReach (afi_number f) width (hop_in value) (run_of width (reached_of value)).0 value
octets-reach f width (a ∷ b ∷ c ∷ d ∷ rest) octets e long longer good =
    let wide : length (take d rest) ≡ d = omega (arith, length-take d rest) in
    let more = first_of (drop d rest) (omega (arith, length-drop d rest)) in
    let split : rest ≡ take d rest ++ (more.0 ∷ more.1) = sym (take-append-drop d rest) ∙ ap (λ (x : List ℕ). take d rest ++ x) more.2 in
    let all : a ∷ b ∷ c ∷ d ∷ rest ≡ a ∷ b ∷ c ∷ length (take d rest) ∷ (take d rest ++ (more.0 ∷ more.1)) = ap₂ (λ (n : ℕ) (x : List ℕ). a ∷ b ∷ c ∷ n ∷ x) (sym wide) split in
    let behind : reached_of (a ∷ b ∷ c ∷ d ∷ rest) ≡ more.1 =
    ap (λ (n : ℕ). drop (5 + n) (a ∷ b ∷ c ∷ d ∷ rest)) (sym wide) ∙ ap (drop (5 + length (take d rest))) all ∙ rest-at a b c (take d rest) more.0 more.1 in
    record {
      reserved = more.0;
      row = more.1;
      octets = family-front a b c (d ∷ rest) f octets e ∙ ap₂ (λ (n : ℕ) (x : List ℕ). to_be_bytes w16 (afi_number f) ++ (UNICAST ∷ n ∷ x)) (sym wide) split;
      prefixes = subst (λ (x : List ℕ). Row (IsPrefix width) (run_of width (reached_of (a ∷ b ∷ c ∷ d ∷ rest))).0 x) behind (run-whole width (reached_of (a ∷ b ∷ c ∷ d ∷ rest)) good);
    }
octets-reach f width [] octets e long longer good = absurd (omega arith)
octets-reach f width (a ∷ []) octets e long longer good = absurd (omega arith)
octets-reach f width (a ∷ b ∷ []) octets e long longer good = absurd (omega arith)
octets-reach f width (a ∷ b ∷ c ∷ []) octets e long longer good = absurd (omega arith)

pub octets-unreach : (f : Family) (width : ℕ) (value : List ℕ) → AreOctets value → family_of value ≡ Some f → 3 ≤ length value → has_bad_prefix width (withdrawn_of value) ≡ false
    → IsUnreach (afi_number f) width (run_of width (withdrawn_of value)).0 value
octets-unreach f width (a ∷ b ∷ c ∷ rest) octets e long good =
    record { row = rest; octets = family-front a b c rest f octets e; prefixes = run-whole width rest good }
octets-unreach f width [] octets e long good = absurd (omega arith)
octets-unreach f width (a ∷ []) octets e long good = absurd (omega arith)
octets-unreach f width (a ∷ b ∷ []) octets e long good = absurd (omega arith)

-- ---- routes that were read can be written, in the same number of octets

module _ (f : Family) (width : ℕ) (hop : List ℕ) (routes : List PrefixValue) (b : List ℕ) (octets : AreOctets b) (s : IsReach (afi_number f) width hop routes b) where
  behind_hop : AreOctets (hop ++ (s.reserved ∷ s.row))
  behind_hop = subst AreOctets (reach-hop f width hop routes b s) (AreOctets-drop 4 b octets)

  row_octets : AreOctets s.row
  row_octets i = AreOctets-back hop (s.reserved ∷ s.row) behind_hop (suc i)

  pub reach-hop_octets : AreOctets hop
  reach-hop_octets = AreOctets-front hop (s.reserved ∷ s.row) behind_hop

  pub reach-valid : AllByRecursion (IsValid width) routes
  reach-valid = prefixes-valid width routes s.row row_octets s.prefixes

  pub reach-rewritten : length (reach_row (afi_number f) hop routes) ≡ length b
  reach-rewritten =
      let again : length (run_octets routes) ≡ length s.row = (Row-rewritten width routes s.row row_octets s.prefixes).1 in
      omega (arith, length-append hop (0 ∷ run_octets routes), reach-length f width hop routes b s, again)

module _ (f : Family) (width : ℕ) (routes : List PrefixValue) (b : List ℕ) (octets : AreOctets b) (s : IsUnreach (afi_number f) width routes b) where
  gone_octets : AreOctets s.row
  gone_octets = subst AreOctets (unreach-rest f width routes b s) (AreOctets-drop 3 b octets)

  pub unreach-valid : AllByRecursion (IsValid width) routes
  unreach-valid = prefixes-valid width routes s.row gone_octets s.prefixes

  pub unreach-rewritten : length (unreach_row (afi_number f) routes) ≡ length b
  unreach-rewritten =
      let again : length (run_octets routes) ≡ length s.row = (Row-rewritten width routes s.row gone_octets s.prefixes).1 in
      omega (arith, again, ap length s.octets)
