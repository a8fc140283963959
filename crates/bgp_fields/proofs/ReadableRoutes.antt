-- Values of MP_REACH_NLRI and MP_UNREACH_NLRI that are kept, and capabilities, can be read to their end.
use Rattle.bgp_fields.proofs.Prelude.{◌≡◌, ℕ, ◌==◌, Bool, true, false, cond, List, [], ◌∷◌, ◌++◌, length, Option, Some, None, refl, sym, ap, subst, ◌∙◌}
use Rattle.bgp_fields.proofs.Prelude.{append_assoc, arith, append-nil, length-append, IPV4, IPV6, UNICAST, Context, PrefixValue, IsPrefix, Row, afi_of}
use Rattle.bgp_fields.proofs.Prelude.{safi_of, family_of, is_in_use, mp_reach_of, mp_unreach_of, IsReach, link_octets, HasLink, IsReachValue, IsUnreach}
use Rattle.bgp_fields.proofs.Prelude.{IsUnreachValue, FieldKind, ValuePart, one, hop_behind, behind_family, value_plan}
use Rattle.bgp_fields.proofs.Readable.{ValueRead, value-front}
use Rattle.bgp_fields.proofs.ReadableValues.{prefixes-read}

module _ (ctx : Context) where
  hop4-read : (hop row : List ℕ) (reserved : ℕ) (routes : List PrefixValue) → length hop ≡ 4 → Row (IsPrefix 4) routes row
      → ValueRead ctx (ValuePart.NextHop false 4) (hop ++ (reserved ∷ row))
  hop4-read hop row reserved routes four prefixes =
      value-front ctx (ValuePart.NextHop false 4) hop (reserved ∷ row) None FieldKind.NextHop 4 (ValuePart.Reserved false) refl four (omega arith) refl
      (value-front ctx (ValuePart.Reserved false) (reserved ∷ []) row None FieldKind.Reserved 1 (ValuePart.Prefixes FieldKind.ReachPrefix4 false) refl refl (omega arith) refl
      (prefixes-read ctx FieldKind.ReachPrefix4 false refl routes row prefixes))

  reserved6-read : (row : List ℕ) (reserved : ℕ) (routes : List PrefixValue) → Row (IsPrefix 16) routes row → ValueRead ctx (ValuePart.Reserved true) (reserved ∷ row)
  reserved6-read row reserved routes prefixes =
      value-front ctx (ValuePart.Reserved true) (reserved ∷ []) row None FieldKind.Reserved 1 (ValuePart.Prefixes FieldKind.ReachPrefix6 true) refl refl (omega arith) refl
      (prefixes-read ctx FieldKind.ReachPrefix6 true refl routes row prefixes)

  hop6-read : (hop : List ℕ) (link : Option (List ℕ)) (row : List ℕ) (reserved : ℕ) (routes : List PrefixValue) → length hop ≡ 16 → HasLink link → Row (IsPrefix 16) routes row
      → ValueRead ctx (hop_behind true (length (hop ++ link_octets link))) ((hop ++ link_octets link) ++ (reserved ∷ row))
  hop6-read hop None row reserved routes long linked prefixes =
      let n : length (hop ++ []) ≡ 16 = ap length (append-nil hop) ∙ long in
      subst (λ (k : ℕ). ValueRead ctx (hop_behind true k) ((hop ++ []) ++ (reserved ∷ row))) (sym n)
      (value-front ctx (ValuePart.NextHop true 16) (hop ++ []) (reserved ∷ row) None FieldKind.NextHop 16 (ValuePart.Reserved true) refl n (omega arith) refl
      (reserved6-read row reserved routes prefixes))
  hop6-read hop (Some addr) row reserved routes long linked prefixes =
      let n : length (hop ++ addr) ≡ 32 = omega (arith, length-append hop addr, long, linked.wide) in
      subst (λ (k : ℕ). ValueRead ctx (hop_behind true k) ((hop ++ addr) ++ (reserved ∷ row))) (sym n)
      (subst (ValueRead ctx (ValuePart.NextHop true 32)) (sym (append_assoc hop addr (reserved ∷ row)))
      (value-front ctx (ValuePart.NextHop true 32) hop (addr ++ (reserved ∷ row)) None FieldKind.NextHop 16 ValuePart.LinkLocal refl long (omega arith) refl
      (value-front ctx ValuePart.LinkLocal addr (reserved ∷ row) None FieldKind.LinkLocal 16 (ValuePart.Reserved true) refl linked.wide (omega arith) refl
      (reserved6-read row reserved routes prefixes))))

  -- the family at the front
  family-read : (reach : Bool) (afi : ℕ) (high low : ℕ) (back : List ℕ) (next : ValuePart)
      → value_plan ctx (ValuePart.Afi reach) (high ∷ low ∷ (UNICAST ∷ back)) ≡ one FieldKind.Afi 2 (ValuePart.Safi reach afi)
      → behind_family ctx reach afi UNICAST ≡ next → ValueRead ctx next back → ValueRead ctx (ValuePart.Afi reach) (high ∷ low ∷ (UNICAST ∷ back))
  family-read reach afi high low back next is used later =
      value-front ctx (ValuePart.Afi reach) (high ∷ low ∷ []) (UNICAST ∷ back) None FieldKind.Afi 2 (ValuePart.Safi reach afi) is refl (omega arith) refl
      (value-front ctx (ValuePart.Safi reach afi) (UNICAST ∷ []) back None FieldKind.Safi 1 next (ap (λ (p : ValuePart). one FieldKind.Safi 1 p) used) refl (omega arith) refl later)

  pub used4 : (reach : Bool) → ctx.ip4 ≡ true → behind_family ctx reach IPV4 UNICAST ≡ cond reach (ValuePart.NextHopLength false) (ValuePart.Prefixes FieldKind.UnreachPrefix4 false)
  used4 reach e = rw e refl

  pub used6 : (reach : Bool) → ctx.ip6 ≡ true → behind_family ctx reach IPV6 UNICAST ≡ cond reach (ValuePart.NextHopLength true) (ValuePart.Prefixes FieldKind.UnreachPrefix6 true)
  used6 reach e = rw e refl

  pub reach4-read : (hop : List ℕ) (routes : List PrefixValue) (b : List ℕ) → length hop ≡ 4 → IsReach IPV4 4 hop routes b → ctx.ip4 ≡ true → ValueRead ctx (ValuePart.Afi true) b
  reach4-read hop routes b four is used =
      subst (ValueRead ctx (ValuePart.Afi true)) (sym is.octets)
      (family-read true IPV4 0 1 (length hop ∷ (hop ++ (is.reserved ∷ is.row))) (ValuePart.NextHopLength false) refl (used4 true used)
      (value-front ctx (ValuePart.NextHopLength false) (length hop ∷ []) (hop ++ (is.reserved ∷ is.row)) None FieldKind.NextHopLength 1 (ValuePart.NextHop false 4)
      (ap (λ (n : ℕ). one FieldKind.NextHopLength 1 (hop_behind false n)) four) refl (omega arith) refl
      (hop4-read hop is.row is.reserved routes four is.prefixes)))

  pub reach6-read : (hop : List ℕ) (link : Option (List ℕ)) (routes : List PrefixValue) (b : List ℕ) → length hop ≡ 16 → HasLink link
      → IsReach IPV6 16 (hop ++ link_octets link) routes b → ctx.ip6 ≡ true → ValueRead ctx (ValuePart.Afi true) b
  reach6-read hop link routes b long linked is used =
      let both = hop ++ link_octets link in
      subst (ValueRead ctx (ValuePart.Afi true)) (sym is.octets)
      (family-read true IPV6 0 2 (length both ∷ (both ++ (is.reserved ∷ is.row))) (ValuePart.NextHopLength true) refl (used6 true used)
      (value-front ctx (ValuePart.NextHopLength true) (length both ∷ []) (both ++ (is.reserved ∷ is.row)) None FieldKind.NextHopLength 1 (hop_behind true (length both))
      refl refl (omega arith) refl
      (hop6-read hop link is.row is.reserved routes long linked is.prefixes)))

  -- by the family at the front
  reach-by : (v : List ℕ) (unicast ip4 ip6 : Bool) → (safi_of v == UNICAST) ≡ unicast → (afi_of v == IPV4) ≡ ip4 → (afi_of v == IPV6) ≡ ip6
      → is_in_use ctx (family_of v) ≡ true → IsReachValue (mp_reach_of v) v → ValueRead ctx (ValuePart.Afi true) v
  reach-by v false ip4 ip6 s a b used is = absurd (let no : false ≡ true = rw s at used in cc)
  reach-by v true true ip6 s a b used is = let in_use : ctx.ip4 ≡ true = rw (s, a) at used in let spelled = rw (s, a) at is in reach4-read _ _ v spelled.0 spelled.1 in_use
  reach-by v true false true s a b used is =
      let in_use : ctx.ip6 ≡ true = rw (s, a, b) at used in let spelled = rw (s, a, b) at is in reach6-read _ _ _ v spelled.0 spelled.1 spelled.2 in_use
  reach-by v true false false s a b used is = absurd (let no : false ≡ true = rw (s, a, b) at used in cc)

  pub reach-read : (v : List ℕ) → is_in_use ctx (family_of v) ≡ true → IsReachValue (mp_reach_of v) v → ValueRead ctx (ValuePart.Afi true) v
  reach-read v used is = reach-by v (safi_of v == UNICAST) (afi_of v == IPV4) (afi_of v == IPV6) refl refl refl used is

  unreach4-read : (routes : List PrefixValue) (b : List ℕ) → IsUnreach IPV4 4 routes b → ctx.ip4 ≡ true → ValueRead ctx (ValuePart.Afi false) b
  unreach4-read routes b is used =
      subst (ValueRead ctx (ValuePart.Afi false)) (sym is.octets)
      (family-read false IPV4 0 1 is.row (ValuePart.Prefixes FieldKind.UnreachPrefix4 false) refl (used4 false used) (prefixes-read ctx FieldKind.UnreachPrefix4 false refl routes is.row is.prefixes))

  unreach6-read : (routes : List PrefixValue) (b : List ℕ) → IsUnreach IPV6 16 routes b → ctx.ip6 ≡ true → ValueRead ctx (ValuePart.Afi false) b
  unreach6-read routes b is used =
      subst (ValueRead ctx (ValuePart.Afi false)) (sym is.octets)
      (family-read false IPV6 0 2 is.row (ValuePart.Prefixes FieldKind.UnreachPrefix6 true) refl (used6 false used) (prefixes-read ctx FieldKind.UnreachPrefix6 true refl routes is.row is.prefixes))

  unreach-by : (v : List ℕ) (unicast ip4 ip6 : Bool) → (safi_of v == UNICAST) ≡ unicast → (afi_of v == IPV4) ≡ ip4 → (afi_of v == IPV6) ≡ ip6
      → is_in_use ctx (family_of v) ≡ true → IsUnreachValue (mp_unreach_of v) v → ValueRead ctx (ValuePart.Afi false) v
  unreach-by v false ip4 ip6 s a b used is = absurd (let no : false ≡ true = rw s at used in cc)
  unreach-by v true true ip6 s a b used is = let in_use : ctx.ip4 ≡ true = rw (s, a) at used in let spelled = rw (s, a) at is in unreach4-read _ v spelled in_use
  unreach-by v true false true s a b used is =
      let in_use : ctx.ip6 ≡ true = rw (s, a, b) at used in let spelled = rw (s, a, b) at is in unreach6-read _ v spelled in_use
  unreach-by v true false false s a b used is = absurd (let no : false ≡ true = rw (s, a, b) at used in cc)

  pub unreach-read : (v : List ℕ) → is_in_use ctx (family_of v) ≡ true → IsUnreachValue (mp_unreach_of v) v → ValueRead ctx (ValuePart.Afi false) v
  unreach-read v used is = unreach-by v (safi_of v == UNICAST) (afi_of v == IPV4) (afi_of v == IPV6) refl refl refl used is
