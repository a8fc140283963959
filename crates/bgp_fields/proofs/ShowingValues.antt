-- The prefixes that the value of an attribute shows.
use Rattle.bgp_fields.proofs.Prelude.{◌≡◌, ℕ, zero, suc, ◌+◌, ◌-◌, ◌*◌, ◌<◌, ◌≤◌, ◌&&◌, ◌==◌, nat_lt, nat_le, Bool, true, false, cond, not, List, [], ◌∷◌}
use Rattle.bgp_fields.proofs.Prelude.{◌++◌, length, take, drop, Option, Some, None, refl, sym, ap, subst, ◌∙◌, append_assoc, arith, cond_both, not-true}
use Rattle.bgp_fields.proofs.Prelude.{eqb-true, append-nil, length-append, IPV4, IPV6, UNICAST, MULTIPROTOCOL, FOUR_OCTET_AS, Context, PrefixValue, IsPrefix}
use Rattle.bgp_fields.proofs.Prelude.{Row, number_width, afi_of, safi_of, family_of, is_in_use, mp_reach_of, mp_unreach_of, IsReach, link_octets, HasLink}
use Rattle.bgp_fields.proofs.Prelude.{IsReachValue, IsUnreach, IsUnreachValue, MpReach, MpUnreach, Group, FieldKind, ValuePart, no_fields, value_fields, one}
use Rattle.bgp_fields.proofs.Prelude.{first_of, prefix_len, width_of, behind_family, hop_behind, capability_value, value_plan, prefix_width, prefix_in, Plan}
use Rattle.bgp_fields.proofs.Prelude.{fit, group_from, Telling, walk_within, walk}
use Rattle.bgp_fields.proofs.ReadableRoutes.{used4, used6}
use Rattle.bgp_fields.proofs.ReadableValues.{prefix-long}
use Rattle.bgp_fields.proofs.Showing.{is_prefix, NonePrefix, none-append, pick, pick-nil, pick-append, prefix-in, none-shown, Shows, nothing-shows, shows-step, shows-leaf}

-- ---- parts without a prefix

abbrev pub is_plain : ValuePart → Bool
is_plain (ValuePart.One kind n) = not (is_prefix kind)
is_plain (ValuePart.Row kind n) = not (is_prefix kind)
is_plain (ValuePart.Prefixes kind ip6) = false
is_plain (ValuePart.PathPrefix kind ip6) = false
is_plain (ValuePart.Aggregator wide) = true
is_plain (ValuePart.Segment wide confederations) = true
is_plain (ValuePart.SegmentCount wide confederations) = true
is_plain (ValuePart.Numbers wide confederations left) = true
is_plain (ValuePart.Afi reach) = false
is_plain (ValuePart.Safi reach afi) = false
is_plain (ValuePart.NextHopLength ip6) = false
is_plain (ValuePart.NextHop ip6 n) = false
is_plain ValuePart.LinkLocal = false
is_plain (ValuePart.Reserved ip6) = false
is_plain ValuePart.CapabilityCode = true
is_plain (ValuePart.CapabilityLength code) = true
is_plain (ValuePart.Capability kind n) = not (is_prefix kind)
is_plain ValuePart.CapabilityAfi = true
is_plain ValuePart.CapabilityReserved = true
is_plain ValuePart.CapabilitySafi = true
is_plain (ValuePart.All kind) = not (is_prefix kind)

-- a plan of no prefix, and none after it
abbrev Plain : Plan (Unit {0}) ValuePart → Type 0
Plain p = (is_prefix p.kind ≡ false) × (is_plain p.next ≡ true)

either : (b : Bool) (x y : ValuePart) → is_plain x ≡ true → is_plain y ≡ true → is_plain (cond b x y) ≡ true
either true x y p q = p
either false x y p q = q

capability-plain : (code n : ℕ) → is_plain (capability_value code n) ≡ true
capability-plain code n =
    either (code == MULTIPROTOCOL) _ _ (either (n == 4) _ _ refl refl) (either (code == FOUR_OCTET_AS) _ _ (either (n == 4) _ _ refl refl) refl)

plan-plain : (ctx : Context) (part : ValuePart) (b : List ℕ) → is_plain part ≡ true → Plain (value_plan ctx part b)
plan-plain ctx (ValuePart.One kind n) b e = (not-true _ e, refl)
plan-plain ctx (ValuePart.Row kind n) b e = (not-true _ e, e)
plan-plain ctx (ValuePart.Prefixes kind ip6) b e = absurd (let no : false ≡ true = e in cc)
plan-plain ctx (ValuePart.PathPrefix kind ip6) b e = absurd (let no : false ≡ true = e in cc)
plan-plain ctx (ValuePart.Aggregator wide) b e = (refl, refl)
plan-plain ctx (ValuePart.Segment wide confederations) b e = (refl, refl)
plan-plain ctx (ValuePart.SegmentCount wide confederations) b e =
    (refl, either (nat_lt 0 (first_of b) && nat_le (1 + first_of b * number_width wide) (length b)) (ValuePart.Numbers wide confederations (first_of b)) (ValuePart.All FieldKind.Unread) refl refl)
plan-plain ctx (ValuePart.Numbers wide confederations left) b e =
    (refl, either (nat_lt 1 left) (ValuePart.Numbers wide confederations (left - 1)) (ValuePart.Segment wide confederations) refl refl)
plan-plain ctx (ValuePart.Afi reach) b e = absurd (let no : false ≡ true = e in cc)
plan-plain ctx (ValuePart.Safi reach afi) b e = absurd (let no : false ≡ true = e in cc)
plan-plain ctx (ValuePart.NextHopLength ip6) b e = absurd (let no : false ≡ true = e in cc)
plan-plain ctx (ValuePart.NextHop ip6 n) b e = absurd (let no : false ≡ true = e in cc)
plan-plain ctx ValuePart.LinkLocal b e = absurd (let no : false ≡ true = e in cc)
plan-plain ctx (ValuePart.Reserved ip6) b e = absurd (let no : false ≡ true = e in cc)
plan-plain ctx ValuePart.CapabilityCode b e = (refl, refl)
plan-plain ctx (ValuePart.CapabilityLength code) b e =
    (refl, either (nat_lt (length b) (1 + first_of b)) (ValuePart.All FieldKind.Unread) _ refl (either (first_of b == 0) ValuePart.CapabilityCode _ refl (capability-plain code (first_of b))))
plan-plain ctx (ValuePart.Capability kind n) b e = (not-true _ e, refl)
plan-plain ctx ValuePart.CapabilityAfi b e = (refl, refl)
plan-plain ctx ValuePart.CapabilityReserved b e = (refl, refl)
plan-plain ctx ValuePart.CapabilitySafi b e = (refl, refl)
plan-plain ctx (ValuePart.All kind) b e = (not-true _ e, refl)

fit-plain : (p : Plan (Unit {0}) ValuePart) (n : ℕ) → Plain p → Plain (fit (ValuePart.All FieldKind.Unread) p n)
fit-plain p n plain =
    cond_both (nat_lt 0 p.len && nat_le p.len n)
    (cond (nat_le (p.len + p.inner_len) n) p (record p { inner_len = 0; next = ValuePart.All FieldKind.Unread }))
    (record p { kind = FieldKind.Unread; len = n; begins = None; inner_len = 0; next = ValuePart.All FieldKind.Unread }) Plain
    (λ fits. cond_both (nat_le (p.len + p.inner_len) n) p (record p { inner_len = 0; next = ValuePart.All FieldKind.Unread }) Plain (λ room. plain) (λ no. (plain.0, refl)))
    (λ no. (refl, refl))

none-inside : (none : Unit {0}) (at : ℕ) (group : Option Group) (b : List ℕ) → NonePrefix (no_fields none at group b)
none-inside none at group [] = tt
none-inside none at group (x ∷ b) = (refl, tt)

module _ (ctx : Context) where
  abbrev tell : ℕ → ValuePart → Telling
  tell n = walk_within n (ValuePart.All FieldKind.Unread) (value_plan ctx) no_fields

  plain-within : (n : ℕ) (part : ValuePart) (at : ℕ) (group : Option Group) (b : List ℕ) → is_plain part ≡ true → NonePrefix (tell n part at group b)
  plain-within zero part at group b e = tt
  plain-within (suc n) part at group [] e = tt
  plain-within (suc n) part at group (x ∷ b) e =
      let p = fit (ValuePart.All FieldKind.Unread) (value_plan ctx part (x ∷ b)) (length (x ∷ b)) in
      let g = group_from at p.begins group in
      let plain = fit-plain (value_plan ctx part (x ∷ b)) (length (x ∷ b)) (plan-plain ctx part (x ∷ b) e) in (
        plain.0,
        none-append (no_fields p.inner (at + p.len) g (take p.inner_len (drop p.len (x ∷ b))))
            (tell n p.next (at + p.len + p.inner_len) g (drop (p.len + p.inner_len) (x ∷ b)))
            (none-inside p.inner (at + p.len) g (take p.inner_len (drop p.len (x ∷ b))))
            (plain-within n p.next (at + p.len + p.inner_len) g (drop (p.len + p.inner_len) (x ∷ b)) plain.1),
      )

  pub plain-none : (part : ValuePart) (at : ℕ) (group : Option Group) (b : List ℕ) → is_plain part ≡ true → NonePrefix (value_fields ctx part at group b)
  unfolding walk
  plain-none part at group b e = plain-within (length b) part at group b e

module _ (ctx : Context) (chosen : FieldKind → Bool) where
  abbrev pub ValueShows : ValuePart → List ℕ → List PrefixValue → Type 0
  ValueShows part b ps = Shows chosen (value_fields ctx part) b ps

  pub plain-shows : (part : ValuePart) (b : List ℕ) → is_plain part ≡ true → ValueShows part b []
  plain-shows part b e m at group here = none-shown chosen m (value_fields ctx part at group b) (plain-none ctx part at group b e)

  leaf : (part : ValuePart) (front back : List ℕ) (kind : FieldKind) (n : ℕ) (next : ValuePart) (later : List PrefixValue)
      → value_plan ctx part (front ++ back) ≡ one kind n next → length front ≡ n → 0 < n → is_prefix kind ≡ false → ValueShows next back later → ValueShows part (front ++ back) later
  leaf part front back kind n next later is long some known behind =
      shows-leaf chosen (Unit {0}) ValuePart (ValuePart.All FieldKind.Unread) (value_plan ctx) no_fields part front back (one kind n next) later is long some refl known (λ at group. refl) behind

  pub prefixes-show : (kind : FieldKind) (ip6 : Bool) → prefix_width kind ≡ Some (width_of ip6) → (ps : List PrefixValue) (b : List ℕ) → Row (IsPrefix (width_of ip6)) ps b
      → ValueShows (ValuePart.Prefixes kind ip6) b (pick (chosen kind) ps)
  prefixes-show kind ip6 wide [] b row =
      subst (λ (c : List ℕ). ValueShows (ValuePart.Prefixes kind ip6) c (pick (chosen kind) [])) (sym row)
      (subst (ValueShows (ValuePart.Prefixes kind ip6) []) (sym (pick-nil (chosen kind)))
      (nothing-shows chosen (Unit {0}) ValuePart (ValuePart.All FieldKind.Unread) (value_plan ctx) no_fields (ValuePart.Prefixes kind ip6)))
  prefixes-show kind ip6 wide (p ∷ ps) b row =
      let is = row.3 in
      let long = prefix-long (width_of ip6) p row.0 is in
      let n = prefix_len (width_of ip6) p.len in
      subst (λ (c : List ℕ). ValueShows (ValuePart.Prefixes kind ip6) c (pick (chosen kind) (p ∷ ps))) (sym row.2)
      (subst (ValueShows (ValuePart.Prefixes kind ip6) (row.0 ++ row.1)) (pick-append (chosen kind) (p ∷ []) ps)
      (shows-step chosen (Unit {0}) ValuePart (ValuePart.All FieldKind.Unread) (value_plan ctx) no_fields (ValuePart.Prefixes kind ip6) row.0 [] row.1
      (one kind n (ValuePart.Prefixes kind ip6)) (pick (chosen kind) (p ∷ [])) [] (pick (chosen kind) ps)
      (ap (λ (c : List ℕ). one kind (prefix_len (width_of ip6) (first_of (c ++ row.1))) (ValuePart.Prefixes kind ip6)) is.octets)
      long (omega (arith, sym long, ap length is.octets)) refl
      (ap (λ (o : Option ℕ). pick (chosen kind) (prefix_in o row.0)) wide ∙ ap (pick (chosen kind)) (prefix-in (width_of ip6) p row.0 is))
      (λ m at group here. refl)
      (prefixes-show kind ip6 wide ps row.1 row.4)))

  -- ---- MP_REACH_NLRI and MP_UNREACH_NLRI

  reserved-shows : (ip6 : Bool) (kind : FieldKind) (row : List ℕ) (reserved : ℕ) (ps : List PrefixValue)
      → value_plan ctx (ValuePart.Reserved ip6) (reserved ∷ row) ≡ one FieldKind.Reserved 1 (ValuePart.Prefixes kind ip6) → prefix_width kind ≡ Some (width_of ip6)
      → Row (IsPrefix (width_of ip6)) ps row → ValueShows (ValuePart.Reserved ip6) (reserved ∷ row) (pick (chosen kind) ps)
  reserved-shows ip6 kind row reserved ps is wide spelled =
      leaf (ValuePart.Reserved ip6) (reserved ∷ []) row FieldKind.Reserved 1 (ValuePart.Prefixes kind ip6) (pick (chosen kind) ps) is refl (omega arith) refl
      (prefixes-show kind ip6 wide ps row spelled)

  hop6-shows : (hop : List ℕ) (link : Option (List ℕ)) (row : List ℕ) (reserved : ℕ) (ps : List PrefixValue) → length hop ≡ 16 → HasLink link → Row (IsPrefix 16) ps row
      → ValueShows (hop_behind true (length (hop ++ link_octets link))) ((hop ++ link_octets link) ++ (reserved ∷ row)) (pick (chosen FieldKind.ReachPrefix6) ps)
  hop6-shows hop None row reserved ps long linked prefixes =
      let n : length (hop ++ []) ≡ 16 = ap length (append-nil hop) ∙ long in
      subst (λ (k : ℕ). ValueShows (hop_behind true k) ((hop ++ []) ++ (reserved ∷ row)) (pick (chosen FieldKind.ReachPrefix6) ps)) (sym n)
      (leaf (ValuePart.NextHop true 16) (hop ++ []) (reserved ∷ row) FieldKind.NextHop 16 (ValuePart.Reserved true) _ refl n (omega arith) refl
      (reserved-shows true FieldKind.ReachPrefix6 row reserved ps refl refl prefixes))
  hop6-shows hop (Some addr) row reserved ps long linked prefixes =
      let n : length (hop ++ addr) ≡ 32 = omega (arith, length-append hop addr, long, linked.wide) in
      subst (λ (k : ℕ). ValueShows (hop_behind true k) ((hop ++ addr) ++ (reserved ∷ row)) (pick (chosen FieldKind.ReachPrefix6) ps)) (sym n)
      (subst (λ (c : List ℕ). ValueShows (ValuePart.NextHop true 32) c (pick (chosen FieldKind.ReachPrefix6) ps)) (sym (append_assoc hop addr (reserved ∷ row)))
      (leaf (ValuePart.NextHop true 32) hop (addr ++ (reserved ∷ row)) FieldKind.NextHop 16 ValuePart.LinkLocal _ refl long (omega arith) refl
      (leaf ValuePart.LinkLocal addr (reserved ∷ row) FieldKind.LinkLocal 16 (ValuePart.Reserved true) _ refl linked.wide (omega arith) refl
      (reserved-shows true FieldKind.ReachPrefix6 row reserved ps refl refl prefixes))))

  family-shows : (reach : Bool) (afi : ℕ) (high low safi : ℕ) (back : List ℕ) (next : ValuePart) (ps : List PrefixValue)
      → value_plan ctx (ValuePart.Afi reach) (high ∷ low ∷ (safi ∷ back)) ≡ one FieldKind.Afi 2 (ValuePart.Safi reach afi)
      → behind_family ctx reach afi safi ≡ next → ValueShows next back ps → ValueShows (ValuePart.Afi reach) (high ∷ low ∷ (safi ∷ back)) ps
  family-shows reach afi high low safi back next ps is used later =
      leaf (ValuePart.Afi reach) (high ∷ low ∷ []) (safi ∷ back) FieldKind.Afi 2 (ValuePart.Safi reach afi) ps is refl (omega arith) refl
      (leaf (ValuePart.Safi reach afi) (safi ∷ []) back FieldKind.Safi 1 next ps (ap (λ (p : ValuePart). one FieldKind.Safi 1 p) used) refl (omega arith) refl later)

  -- what a kept attribute shows
  abbrev pub reach_shown : MpReach → List PrefixValue
  reach_shown (MpReach.Ip4 hop routes) = pick (chosen FieldKind.ReachPrefix4) routes
  reach_shown (MpReach.Ip6 hop link routes) = pick (chosen FieldKind.ReachPrefix6) routes

  abbrev pub unreach_shown : MpUnreach → List PrefixValue
  unreach_shown (MpUnreach.Ip4 routes) = pick (chosen FieldKind.UnreachPrefix4) routes
  unreach_shown (MpUnreach.Ip6 routes) = pick (chosen FieldKind.UnreachPrefix6) routes

  reach4-shows : (hop : List ℕ) (routes : List PrefixValue) (b : List ℕ) → length hop ≡ 4 → IsReach IPV4 4 hop routes b → ctx.ip4 ≡ true
      → ValueShows (ValuePart.Afi true) b (pick (chosen FieldKind.ReachPrefix4) routes)
  reach4-shows hop routes b four is used =
      subst (λ (c : List ℕ). ValueShows (ValuePart.Afi true) c (pick (chosen FieldKind.ReachPrefix4) routes)) (sym is.octets)
      (family-shows true IPV4 0 1 UNICAST (length hop ∷ (hop ++ (is.reserved ∷ is.row))) (ValuePart.NextHopLength false) _ refl (used4 ctx true used)
      (leaf (ValuePart.NextHopLength false) (length hop ∷ []) (hop ++ (is.reserved ∷ is.row)) FieldKind.NextHopLength 1 (ValuePart.NextHop false 4) _
      (ap (λ (n : ℕ). one FieldKind.NextHopLength 1 (hop_behind false n)) four) refl (omega arith) refl
      (leaf (ValuePart.NextHop false 4) hop (is.reserved ∷ is.row) FieldKind.NextHop 4 (ValuePart.Reserved false) _ refl four (omega arith) refl
      (reserved-shows false FieldKind.ReachPrefix4 is.row is.reserved routes refl refl is.prefixes))))

  reach6-shows : (hop : List ℕ) (link : Option (List ℕ)) (routes : List PrefixValue) (b : List ℕ) → length hop ≡ 16 → HasLink link
      → IsReach IPV6 16 (hop ++ link_octets link) routes b → ctx.ip6 ≡ true → ValueShows (ValuePart.Afi true) b (pick (chosen FieldKind.ReachPrefix6) routes)
  reach6-shows hop link routes b long linked is used =
      let both = hop ++ link_octets link in
      subst (λ (c : List ℕ). ValueShows (ValuePart.Afi true) c (pick (chosen FieldKind.ReachPrefix6) routes)) (sym is.octets)
      (family-shows true IPV6 0 2 UNICAST (length both ∷ (both ++ (is.reserved ∷ is.row))) (ValuePart.NextHopLength true) _ refl (used6 ctx true used)
      (leaf (ValuePart.NextHopLength true) (length both ∷ []) (both ++ (is.reserved ∷ is.row)) FieldKind.NextHopLength 1 (hop_behind true (length both)) _
      refl refl (omega arith) refl (hop6-shows hop link is.row is.reserved routes long linked is.prefixes)))

  unreach4-shows : (routes : List PrefixValue) (b : List ℕ) → IsUnreach IPV4 4 routes b → ctx.ip4 ≡ true → ValueShows (ValuePart.Afi false) b (pick (chosen FieldKind.UnreachPrefix4) routes)
  unreach4-shows routes b is used =
      subst (λ (c : List ℕ). ValueShows (ValuePart.Afi false) c (pick (chosen FieldKind.UnreachPrefix4) routes)) (sym is.octets)
      (family-shows false IPV4 0 1 UNICAST is.row (ValuePart.Prefixes FieldKind.UnreachPrefix4 false) _ refl (used4 ctx false used)
      (prefixes-show FieldKind.UnreachPrefix4 false refl routes is.row is.prefixes))

  unreach6-shows : (routes : List PrefixValue) (b : List ℕ) → IsUnreach IPV6 16 routes b → ctx.ip6 ≡ true → ValueShows (ValuePart.Afi false) b (pick (chosen FieldKind.UnreachPrefix6) routes)
  unreach6-shows routes b is used =
      subst (λ (c : List ℕ). ValueShows (ValuePart.Afi false) c (pick (chosen FieldKind.UnreachPrefix6) routes)) (sym is.octets)
      (family-shows false IPV6 0 2 UNICAST is.row (ValuePart.Prefixes FieldKind.UnreachPrefix6 true) _ refl (used6 ctx false used)
      (prefixes-show FieldKind.UnreachPrefix6 true refl routes is.row is.prefixes))

  -- by the family at the front
  reach-by : (v : List ℕ) (unicast ip4 ip6 : Bool) → (safi_of v == UNICAST) ≡ unicast → (afi_of v == IPV4) ≡ ip4 → (afi_of v == IPV6) ≡ ip6
      → is_in_use ctx (family_of v) ≡ true → IsReachValue (mp_reach_of v) v → ValueShows (ValuePart.Afi true) v (reach_shown (mp_reach_of v))
  reach-by v false ip4 ip6 s a b used is = absurd (let no : false ≡ true = rw s at used in cc)
  reach-by v true true ip6 s a b used is =
      let in_use : ctx.ip4 ≡ true = rw (s, a) at used in let spelled = rw (s, a) at is in rw (s, a) (reach4-shows _ _ v spelled.0 spelled.1 in_use)
  reach-by v true false true s a b used is =
      let in_use : ctx.ip6 ≡ true = rw (s, a, b) at used in let spelled = rw (s, a, b) at is in rw (s, a, b) (reach6-shows _ _ _ v spelled.0 spelled.1 spelled.2 in_use)
  reach-by v true false false s a b used is = absurd (let no : false ≡ true = rw (s, a, b) at used in cc)

  pub reach-shows : (v : List ℕ) → is_in_use ctx (family_of v) ≡ true → IsReachValue (mp_reach_of v) v → ValueShows (ValuePart.Afi true) v (reach_shown (mp_reach_of v))
  reach-shows v used is = reach-by v (safi_of v == UNICAST) (afi_of v == IPV4) (afi_of v == IPV6) refl refl refl used is

  unreach-by : (v : List ℕ) (unicast ip4 ip6 : Bool) → (safi_of v == UNICAST) ≡ unicast → (afi_of v == IPV4) ≡ ip4 → (afi_of v == IPV6) ≡ ip6
      → is_in_use ctx (family_of v) ≡ true → IsUnreachValue (mp_unreach_of v) v → ValueShows (ValuePart.Afi false) v (unreach_shown (mp_unreach_of v))
  unreach-by v false ip4 ip6 s a b used is = absurd (let no : false ≡ true = rw s at used in cc)
  unreach-by v true true ip6 s a b used is =
      let in_use : ctx.ip4 ≡ true = rw (s, a) at used in let spelled = rw (s, a) at is in rw (s, a) (unreach4-shows _ v spelled in_use)
  unreach-by v true false true s a b used is =
      let in_use : ctx.ip6 ≡ true = rw (s, a, b) at used in let spelled = rw (s, a, b) at is in rw (s, a, b) (unreach6-shows _ v spelled in_use)
  unreach-by v true false false s a b used is = absurd (let no : false ≡ true = rw (s, a, b) at used in cc)

  pub unreach-shows : (v : List ℕ) → is_in_use ctx (family_of v) ≡ true → IsUnreachValue (mp_unreach_of v) v → ValueShows (ValuePart.Afi false) v (unreach_shown (mp_unreach_of v))
  unreach-shows v used is = unreach-by v (safi_of v == UNICAST) (afi_of v == IPV4) (afi_of v == IPV6) refl refl refl used is

  -- ---- a family that isn't in use

  unused-by : (reach : Bool) (v : List ℕ) (unicast ip4 ip6 : Bool) → (safi_of v == UNICAST) ≡ unicast → (afi_of v == IPV4) ≡ ip4 → (afi_of v == IPV6) ≡ ip6
      → is_in_use ctx (family_of v) ≡ false → behind_family ctx reach (afi_of v) (safi_of v) ≡ ValuePart.All FieldKind.Unread
  unused-by reach v false ip4 ip6 s a b unused = rw s refl
  unused-by reach v true true true s a b unused =
      let one_family : IPV4 ≡ IPV6 = sym (eqb-true (afi_of v) IPV4 a) ∙ eqb-true (afi_of v) IPV6 b in absurd (omega (arith, one_family))
  unused-by reach v true true false s a b unused = let off : ctx.ip4 ≡ false = rw (s, a) at unused in rw (s, a, b, off) refl
  unused-by reach v true false true s a b unused = let off : ctx.ip6 ≡ false = rw (s, a, b) at unused in rw (s, a, b, off) refl
  unused-by reach v true false false s a b unused = rw (s, a, b) refl

  pub unused-shows : (reach : Bool) (v : List ℕ) → 3 ≤ length v → is_in_use ctx (family_of v) ≡ false → ValueShows (ValuePart.Afi reach) v []
  unused-shows reach [] long unused = absurd (omega arith)
  unused-shows reach (x ∷ []) long unused = absurd (omega arith)
  unused-shows reach (x ∷ y ∷ []) long unused = absurd (omega arith)
  unused-shows reach (x ∷ y ∷ s ∷ b) long unused =
      let v = x ∷ y ∷ s ∷ b in
      family-shows reach (afi_of v) x y s b (ValuePart.All FieldKind.Unread) [] refl
      (unused-by reach v (safi_of v == UNICAST) (afi_of v == IPV4) (afi_of v == IPV6) refl refl refl unused)
      (plain-shows (ValuePart.All FieldKind.Unread) b refl)
