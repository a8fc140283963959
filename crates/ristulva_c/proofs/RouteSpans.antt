-- The prefixes of MP_REACH_NLRI and MP_UNREACH_NLRI, by a cursor.
use Rattle.ristulva_c.proofs.Below.{◌≡◌, ◌≢◌, ℕ, ◌+◌, ◌-◌, ◌≤◌, ◌⊎◌, List, length, take, drop, inl, inr, refl, sym, ap, ◌∙◌, arith, length-drop, eq-eqb, ne_eqb, length-take, IPV4, IPV6, UNICAST, run_of, afi_of, safi_of, next_hop_length, reached_of, withdrawn_of, mp_reach_of, mp_unreach_of}
use Rattle.ristulva_c.specs.declared.span.Span.{Span}
use Rattle.ristulva_c.specs.declared.prefixes.Prefixes.{Prefixes}
use Rattle.ristulva_c.specs.Prelude.{octets_in, width_of, between, prefixes_left, reach_prefixes, unreach_prefixes, LiesIn, IsReachValue}
use Rattle.ristulva_c.proofs.Between.{between_later}

-- six isn't four
other : (n : ℕ) → n ≡ IPV6 → n ≢ IPV4
other n is e = omega (arith, is, e)

module _ (v : List ℕ) (unicast : safi_of v ≡ UNICAST) where
  reach : (afi_of v ≡ IPV4) ⊎ (afi_of v ≡ IPV6) → reach_prefixes (mp_reach_of v) ≡ (run_of (width_of (afi_of v)) (reached_of v)).0
  reach (inl is) = rw (eq-eqb (safi_of v) UNICAST unicast, eq-eqb (afi_of v) IPV4 is) refl
  reach (inr is) = rw (eq-eqb (safi_of v) UNICAST unicast, ne_eqb (afi_of v) IPV4 (other (afi_of v) is), eq-eqb (afi_of v) IPV6 is) refl

  unreach : (afi_of v ≡ IPV4) ⊎ (afi_of v ≡ IPV6) → unreach_prefixes (mp_unreach_of v) ≡ (run_of (width_of (afi_of v)) (withdrawn_of v)).0
  unreach (inl is) = rw (eq-eqb (safi_of v) UNICAST unicast, eq-eqb (afi_of v) IPV4 is) refl
  unreach (inr is) = rw (eq-eqb (safi_of v) UNICAST unicast, ne_eqb (afi_of v) IPV4 (other (afi_of v) is), eq-eqb (afi_of v) IPV6 is) refl

-- the octets of a span after its first n
pub behind_in : (octets : List ℕ) (span : Span) (n : ℕ) → n ≤ span.len → between octets (span.at + n) (span.at + span.len) ≡ drop n (octets_in span octets)
behind_in octets span n le =
    sym (
    ap (λ (k : ℕ). drop n (take k (drop span.at octets))) (let e : span.len ≡ (span.at + span.len) - span.at = omega arith in e)
    ∙ ap (λ (k : ℕ). drop k (between octets span.at (span.at + span.len))) (let e : n ≡ (span.at + n) - span.at = omega arith in e)
    ∙ between_later octets span.at (span.at + n) (span.at + span.len) (omega arith) (omega arith)
    )

long_in : (octets : List ℕ) (span : Span) → LiesIn span octets → length (octets_in span octets) ≡ span.len
long_in octets span lies = omega (arith, lies.within, length-take span.len (drop span.at octets), length-drop span.at octets)

module _ (octets v : List ℕ) (span : Span) (c : Prefixes) (lies : LiesIn span octets) (is : v ≡ octets_in span octets) where
  left : (n : ℕ) → n ≤ length v → c ≡ record { at = span.at + n; end = span.at + span.len; afi = afi_of v } → prefixes_left octets c ≡ (run_of (width_of (afi_of v)) (drop n v)).0
  left n le same =
      ap (λ (q : Prefixes). prefixes_left octets q) same
      ∙ ap (λ (x : List ℕ). (run_of (width_of (afi_of v)) x).0) (behind_in octets span n (omega (arith, ap length is, long_in octets span lies)) ∙ ap (drop n) (sym is))

  pub reach_left : IsReachValue v → c ≡ record { at = span.at + (5 + next_hop_length v); end = span.at + span.len; afi = afi_of v }
      → prefixes_left octets c ≡ reach_prefixes (mp_reach_of (octets_in span octets))
  reach_left value same =
      left (5 + next_hop_length v) value.long same ∙ sym (reach v value.family.unicast value.family.known)
      ∙ ap (λ (x : List ℕ). reach_prefixes (mp_reach_of x)) is
