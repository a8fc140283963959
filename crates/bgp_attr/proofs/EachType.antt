-- What is proved type by type: its tests refuse, what passes them is spelled by its octets and by no others, can be written and is read back.
use Rattle.bgp_wire.proofs.Std.{◌≡◌, ℕ, Bool, true, false, ◌&&◌, List, ◌∷◌, Option, Some, None, refl, sym, ap, subst, ◌∙◌, ◌≤◌, not, eqb, ◌++◌, length, arith, ◌<◌, ltb, suc, lit<, list_any, eqb-false, ltb-false, not-false, not_from_true, or_parts}
use Rattle.std.proofs.lemmas.Bool.{true≢false}
use Rattle.bgp_numbers.specs.declared.afi.TheConstants.{IPV4, IPV6}
use Rattle.bgp_numbers.specs.declared.attribute.TheConstants as attribute
use Rattle.bgp_wire.specs.Prelude.{AreOctets}
use Rattle.bgp_open.specs.declared.context.Context.{Context}
use Rattle.bgp_wire.proofs.OctetLemmas.{AreOctets-front, AreOctets-back, AreOctets-nil, AreOctets-one}
use Rattle.bgp_attr.specs.declared.attr.Attr.{Attr}
use Rattle.bgp_attr.specs.declared.judged.Judged.{Judged}
use Rattle.bgp_attr.specs.Prelude.{TlvValue, aggregator_tests, AttributeType, is_recognised, types, other_type, type_row, judgement, is_writable, as_path_form, origin_code, link_octets, HasLink, Spells, IsTlv, type_of, written_tlv, canonical, any_number, is_above_two_octets, is_bad_segment, is_out_of_place, HasLinkRange, Belongs, IsFourOctets, HasRanges, value_octets, class_of, partial_of, CanBeWritten}
use Rattle.bgp_attr.specs.declared.judged.Judged.TheVariants as judged
use Rattle.bgp_attr.specs.declared.why.Why.TheVariants as why
use Rattle.bgp_attr.specs.declared.aggregator.Aggregator.{Aggregator}
use Rattle.bgp_attr.specs.declared.class.Class.TheVariants as class
use Rattle.bgp_attr.specs.declared.communities.Communities.{Communities}
use Rattle.bgp_attr.specs.declared.communities.LargeCommunities.{LargeCommunities}
use Rattle.bgp_attr.specs.declared.mp.MpReach.{MpReach}
use Rattle.bgp_attr.specs.declared.mp.MpUnreach.{MpUnreach}
use Rattle.bgp_attr.specs.declared.opaque.Opaque.{Opaque}
use Rattle.bgp_attr.specs.declared.origin.Origin.{Origin}
use Rattle.bgp_attr.specs.declared.path.As4Path.{As4Path}
use Rattle.bgp_attr.specs.declared.path.AsPath.{AsPath}
use Rattle.bgp_attr.specs.declared.attr.Attr.TheVariants as attr
use Rattle.bgp_attr.specs.declared.mp.MpReach.TheVariants as reach
use Rattle.bgp_attr.specs.declared.mp.MpUnreach.TheVariants as unreach
use Rattle.bgp_attr.proofs.Tables.{EachRow, ◌&◌, same-back}
use Rattle.bgp_attr.proofs.NumberRows.{Fits}
use Rattle.bgp_attr.proofs.SegmentRows.{path-only}
use Rattle.bgp_attr.proofs.RouteRows.{reach4-value, reach6-value, unreach4-value, unreach6-value}
use Rattle.bgp_attr.proofs.TestRows.{NoneApplies, pass, passed, IsRefusal, AllRefuse, no_more, test, fault, path_of_one, decided-kept, decided_by, row_at, row-at, row-other, by_type, keeps, Writes, writable-Writes}
use Rattle.bgp_attr.proofs.Kept.{origin-spells, as_path-spells, next_hop-spells, four-spells, atomic-spells, aggregator-spells, communities-spells, large-spells, as4_path-spells, other-spells, mp_reach-spells, mp_unreach-spells, origin-only, aggregator-only, communities-only, large-only, as4_path-only, opaque-only}
use Rattle.bgp_attr.proofs.ReadBack.{this-kept, kept-four, four-passes, kept-origin, kept-next_hop, kept-aggregator, kept-as4_aggregator, kept-opaque, kept-as_path, kept-as4_path, kept-communities, kept-large, kept-reach4, kept-reach6, kept-unreach4, kept-unreach6}
use Rattle.bgp_attr.proofs.Rewriting.{Rewritten, origin-rewritten, as_path-rewritten, next_hop-rewritten, four-rewritten, atomic-rewritten, aggregator-rewritten, as4_aggregator-rewritten, communities-rewritten, large-rewritten, as4_path-rewritten, other-rewritten, mp_reach-rewritten, mp_unreach-rewritten, rewritten-fits}
use Rattle.bgp_attr.proofs.WrittenOctets.{AreOctets-four, AreOctets-row, triples-octets, path-octets, run-octets, reach-octets, unreach-octets, link-octets, aggregator-octets, code-octet, made-octets}

-- ---- a type's tests refuse, and so what is kept is the value that passes them

module _ (ctx : Context) (has_nlri : Bool) (t : TlvValue) where
  aggregator_refuses : (wide : Bool) → AllRefuse (aggregator_tests wide t)
  aggregator_refuses wide = test _ _ tt (test _ _ tt (test _ _ tt no_more))

  tests_refuse : AllRefuse (type_row ctx has_nlri t).tests
  tests_refuse =
      by_type ctx has_nlri t (λ type. AllRefuse type.tests)
      ((λ origin. test _ _ tt (test _ _ tt (test _ _ tt no_more)))
      & (λ as_path. test _ _ tt (fault _ _ (path_of_one _ _) (λ w one. tt) (test _ _ tt no_more)))
      & (λ next_hop. test _ _ tt (test _ _ tt (test _ _ tt no_more)))
      & (λ med. test _ _ tt (test _ _ tt no_more))
      & (λ local_pref. test _ _ tt (test _ _ tt (test _ _ tt no_more)))
      & (λ atomic. test _ _ tt (test _ _ tt no_more))
      & (λ aggregator. aggregator_refuses ctx.as4)
      & (λ communities. test _ _ tt (test _ _ tt no_more))
      & (λ mp_reach. test _ _ refl (test _ _ refl (test _ _ tt (test _ _ refl (test _ _ refl (test _ _ refl no_more))))))
      & (λ mp_unreach. test _ _ refl (test _ _ refl (test _ _ tt (test _ _ refl no_more))))
      & (λ as4_path. test _ _ tt (test _ _ tt (test _ _ tt (fault _ _ (path_of_one _ _) (λ w one. one) (test _ _ tt (test _ _ tt no_more))))))
      & (λ as4_aggregator. test _ _ tt (aggregator_refuses true))
      & (λ large. test _ _ tt (test _ _ tt no_more))
      & tt)
      (λ other. test _ _ refl no_more)

  -- what holds of every value and of each refusal holds of the judgement
  pub by_answer : (P : Judged → Type 0) → ((a : Attr) → P (judged.Keep a)) → ((j : Judged) → IsRefusal j → P j) → P (judgement ctx has_nlri t)
  by_answer P kept refused = let type : AttributeType = type_row ctx has_nlri t in decided_by P type.value (kept type.value) refused type.tests tests_refuse.each

  -- the first attribute of its type isn't repeated
  pub not_repeated : judgement ctx has_nlri t ≡ judged.Discard why.Repeated → ⊥
  not_repeated = by_answer (λ j. j ≡ judged.Discard why.Repeated → ⊥) (λ a e. absurd cc) (λ j refused e. subst IsRefusal e refused)

  pub kept-tests : (a : Attr) → judgement ctx has_nlri t ≡ judged.Keep a → NoneApplies (type_row ctx has_nlri t).tests
  kept-tests a e = let type : AttributeType = type_row ctx has_nlri t in (decided-kept type.tests type.value a tests_refuse.each e).0

  pub kept-value : (a : Attr) → judgement ctx has_nlri t ≡ judged.Keep a → (type_row ctx has_nlri t).value ≡ a
  kept-value a e = let type : AttributeType = type_row ctx has_nlri t in (decided-kept type.tests type.value a tests_refuse.each e).1

  -- and its type is the one in its octets
  pub kept-type : (a : Attr) → judgement ctx has_nlri t ≡ judged.Keep a → type_of a ≡ t.kind
  kept-type a keeps =
      ap type_of (sym (kept-value a keeps))
      ∙ by_type ctx has_nlri t (λ type. type_of type.value ≡ t.kind) (same-back t.kind (λ type. type_of type.value) (types ctx has_nlri t) refl) (λ other. refl)

  -- what holds of the value of each row whose tests pass holds of an attribute that is kept
  pub by_kept : (P : Attr → Type 0) → EachRow (λ kind type. t.kind ≡ kind → NoneApplies type.tests → P type.value) (types ctx has_nlri t)
      → (is_recognised t.kind ≡ false → NoneApplies (other_type t).tests → P (other_type t).value) → (a : Attr) → judgement ctx has_nlri t ≡ judged.Keep a → P a
  by_kept P each other a e = subst P (kept-value a e) (by_type ctx has_nlri t (λ type. NoneApplies type.tests → P type.value) each other (kept-tests a e))

-- ---- what is kept is spelled, and nothing else is

-- what is proved of a value that is kept: it is spelled, and can be written again
abbrev Fulfils : Context → Bool → TlvValue → Attr → Type 0
Fulfils ctx has_nlri t a = Spells ctx t a × (t.kind < 256 → Rewritten ctx has_nlri t a)

kept-fulfils : (ctx : Context) (has_nlri : Bool) (t : TlvValue) (a : Attr) → AreOctets t.value → judgement ctx has_nlri t ≡ judged.Keep a → Fulfils ctx has_nlri t a
kept-fulfils ctx has_nlri t a o keeps =
    by_kept ctx has_nlri t (Fulfils ctx has_nlri t)
    ((λ e none. (origin-spells ctx t e none, λ small. origin-rewritten ctx has_nlri t o none))
    & (λ e none. (as_path-spells ctx t e none, λ small. as_path-rewritten ctx has_nlri t o none))
    & (λ e none. (next_hop-spells ctx t has_nlri e none, λ small. next_hop-rewritten ctx has_nlri t o none))
    & (λ e none. (four-spells ctx t attribute.MULTI_EXIT_DISC class.OptionalNonTransitive e none, λ small. four-rewritten ctx has_nlri t o class.OptionalNonTransitive (λ n partial. attr.Med n) refl refl (λ low. low) tt none))
    & (λ e none. (four-spells ctx t attribute.LOCAL_PREF class.WellKnown e none.1, λ small. four-rewritten ctx has_nlri t o class.WellKnown (λ n partial. attr.LocalPref n) refl refl (λ low. low) (not-false _ (passed _ _ none.0)) none.1))
    & (λ e none. (atomic-spells ctx t e none, λ small. atomic-rewritten ctx has_nlri t o))
    & (λ e none. (aggregator-spells ctx t attribute.AGGREGATOR ctx.as4 e none, λ small. aggregator-rewritten ctx has_nlri t o none))
    & (λ e none. (communities-spells ctx t e none, λ small. communities-rewritten ctx has_nlri t o e none))
    & (λ e none. (mp_reach-spells ctx t o e none, λ small. mp_reach-rewritten ctx has_nlri t o e none))
    & (λ e none. (mp_unreach-spells ctx t o e none, λ small. mp_unreach-rewritten ctx has_nlri t o e none))
    & (λ e none. (as4_path-spells ctx t e none, λ small. as4_path-rewritten ctx has_nlri t o none))
    & (λ e none. (aggregator-spells ctx t attribute.AS4_AGGREGATOR true e none.1, λ small. as4_aggregator-rewritten ctx has_nlri t o none))
    & (λ e none. (large-spells ctx t e none, λ small. large-rewritten ctx has_nlri t o e none))
    & tt)
    (λ e none. (other-spells ctx t e none, other-rewritten ctx has_nlri t o e)) a keeps

pub kept-spells : (ctx : Context) (has_nlri : Bool) (t : TlvValue) (a : Attr) → AreOctets t.value → judgement ctx has_nlri t ≡ judged.Keep a → Spells ctx t a
kept-spells ctx has_nlri t a octets keeps = (kept-fulfils ctx has_nlri t a octets keeps).0

module _ (ctx : Context) (has_nlri : Bool) (t : TlvValue) where
  value-at : (kind : ℕ) → t.kind ≡ kind → (type_row ctx has_nlri t).value ≡ (row_at ctx has_nlri t kind).value
  value-at kind e = ap (λ (type : AttributeType). type.value) (row-at ctx has_nlri t kind e)

  -- a value that is spelled is the one that is kept
  pub spells-value : (b : Attr) → Spells ctx t b → (type_row ctx has_nlri t).value ≡ b
  spells-value (attr.Origin o) s = value-at attribute.ORIGIN (s.of_type).kind_is ∙ ap (λ (x : Origin). attr.Origin x) (origin-only t o t.value s.value)
  spells-value (attr.AsPath p) s = value-at attribute.AS_PATH (s.of_type).kind_is ∙ ap (λ (x : AsPath). attr.AsPath x) (sym (path-only (as_path_form ctx) p t.value s.path))
  spells-value (attr.NextHop addr) s = value-at attribute.NEXT_HOP (s.of_type).kind_is ∙ ap (λ (x : List ℕ). attr.NextHop x) s.value
  spells-value (attr.Med n) s = value-at attribute.MULTI_EXIT_DISC (s.of_type).kind_is ∙ ap (λ (x : ℕ). attr.Med x) (sym (s.value).value)
  spells-value (attr.LocalPref n) s = value-at attribute.LOCAL_PREF (s.of_type).kind_is ∙ ap (λ (x : ℕ). attr.LocalPref x) (sym (s.value).value)
  spells-value attr.Atomic s = value-at attribute.ATOMIC_AGGREGATE (s.of_type).kind_is
  spells-value (attr.Aggregator a) s = value-at attribute.AGGREGATOR (s.of_type).kind_is ∙ ap (λ (x : Aggregator). attr.Aggregator x) (aggregator-only t attribute.AGGREGATOR ctx.as4 a s)
  spells-value (attr.Communities c) s = value-at attribute.COMMUNITIES (s.of_type).kind_is ∙ ap (λ (x : Communities). attr.Communities x) (communities-only t c s)
  spells-value (attr.MpReach (reach.Ip4 hop routes)) s =
      value-at attribute.MP_REACH_NLRI (s.of_type).kind_is ∙ ap (λ (x : MpReach). attr.MpReach x) (reach4-value hop routes t.value (s.value).0 (s.value).1)
  spells-value (attr.MpReach (reach.Ip6 hop link routes)) s =
      value-at attribute.MP_REACH_NLRI (s.of_type).kind_is ∙ ap (λ (x : MpReach). attr.MpReach x) (reach6-value hop link routes t.value (s.value).0 (s.value).1 (s.value).2)
  spells-value (attr.MpUnreach (unreach.Ip4 routes)) s = value-at attribute.MP_UNREACH_NLRI (s.of_type).kind_is ∙ ap (λ (x : MpUnreach). attr.MpUnreach x) (unreach4-value routes t.value s.value)
  spells-value (attr.MpUnreach (unreach.Ip6 routes)) s = value-at attribute.MP_UNREACH_NLRI (s.of_type).kind_is ∙ ap (λ (x : MpUnreach). attr.MpUnreach x) (unreach6-value routes t.value s.value)
  spells-value (attr.As4Path p) s = value-at attribute.AS4_PATH (s.of_type).kind_is ∙ ap (λ (x : As4Path). attr.As4Path x) (as4_path-only t p s)
  spells-value (attr.As4Aggregator a) s = value-at attribute.AS4_AGGREGATOR (s.of_type).kind_is ∙ ap (λ (x : Aggregator). attr.As4Aggregator x) (aggregator-only t attribute.AS4_AGGREGATOR true a s)
  spells-value (attr.Large l) s = value-at attribute.LARGE_COMMUNITY (s.of_type).kind_is ∙ ap (λ (x : LargeCommunities). attr.Large x) (large-only t l s)
  spells-value (attr.Opaque o) s = ap (λ (type : AttributeType). type.value) (row-other ctx has_nlri t s.other) ∙ ap (λ (x : Opaque). attr.Opaque x) (opaque-only t o s)

pub kept-only : (ctx : Context) (has_nlri : Bool) (t : TlvValue) (a b : Attr) → judgement ctx has_nlri t ≡ judged.Keep a → Spells ctx t b → b ≡ a
kept-only ctx has_nlri t a b keeps s = sym (spells-value ctx has_nlri t b s) ∙ kept-value ctx has_nlri t a keeps

-- ---- what is kept can be written where it was read, in no more octets

pub kept-rewritten : (ctx : Context) (has_nlri : Bool) (t : TlvValue) (a : Attr) (b : List ℕ) → IsTlv t b → AreOctets b → judgement ctx has_nlri t ≡ judged.Keep a → CanBeWritten ctx has_nlri a b
kept-rewritten ctx has_nlri t a b s octets keeps =
    let all : AreOctets (t.flags ∷ t.kind ∷ (s.size ++ t.value)) = subst AreOctets s.octets octets in
    let behind : AreOctets (s.size ++ t.value) = λ i. all (suc (suc i)) in
    let kept = kept-fulfils ctx has_nlri t a (AreOctets-back s.size t.value behind) keeps in
    rewritten-fits ctx has_nlri t a b s (AreOctets-front s.size t.value behind) (kept.1 (all 1))

-- ---- where it belongs

-- NEXT_HOP where there is NLRI, LOCAL_PREF inside one system
abbrev pub Placed : Context → Bool → Attr → Type 0
Placed ctx has_nlri (attr.NextHop addr) = has_nlri ≡ true
Placed ctx has_nlri (attr.LocalPref n) = ctx.internal ≡ true
Placed ctx has_nlri _ = Unit {0}

-- an attribute so placed belongs in the message unless the session has no use for it
pub belongs : (ctx : Context) (has_nlri : Bool) (a : Attr) → Placed ctx has_nlri a → is_out_of_place ctx a ≡ false → Belongs ctx has_nlri a
belongs ctx has_nlri (attr.NextHop addr) placed place = placed
belongs ctx has_nlri (attr.LocalPref n) placed place = placed
belongs ctx has_nlri (attr.MpReach (reach.Ip4 hop routes)) placed place = not-false ctx.ip4 place
belongs ctx has_nlri (attr.MpReach (reach.Ip6 hop link routes)) placed place = not-false ctx.ip6 place
belongs ctx has_nlri (attr.MpUnreach (unreach.Ip4 routes)) placed place = not-false ctx.ip4 place
belongs ctx has_nlri (attr.MpUnreach (unreach.Ip6 routes)) placed place = not-false ctx.ip6 place
belongs ctx has_nlri _ placed place = tt

-- and it belongs in no other
pub has-place : (ctx : Context) (has_nlri : Bool) (a : Attr) → Belongs ctx has_nlri a → is_out_of_place ctx a ≡ false
has-place ctx has_nlri (attr.MpReach (reach.Ip4 hop routes)) in_place = not_from_true ctx.ip4 in_place
has-place ctx has_nlri (attr.MpReach (reach.Ip6 hop link routes)) in_place = not_from_true ctx.ip6 in_place
has-place ctx has_nlri (attr.MpUnreach (unreach.Ip4 routes)) in_place = not_from_true ctx.ip4 in_place
has-place ctx has_nlri (attr.MpUnreach (unreach.Ip6 routes)) in_place = not_from_true ctx.ip6 in_place
has-place ctx has_nlri _ in_place = refl

-- ---- what is written is octets, and is kept as the value that was written

not_both : (b x : Bool) → (not b && x) ≡ false → b ≡ false → x ≡ false
not_both true x e is = absurd (true≢false is)
not_both false x e is = e

fits_where : (b : Bool) (n : ℕ) → IsFourOctets n → (not b && ltb 65535 n) ≡ false → Fits b n
fits_where true n small e = small
fits_where false n small e = let low : n ≤ 65535 = ltb-false 65535 n e in omega arith

not_as4 : (b : Bool) → (b && true) ≡ false → b ≡ false
not_as4 b e = sym (at b) ∙ e
  where
    at : (b : Bool) → (b && true) ≡ b
    at true = refl
    at false = refl

some_from : {A : Type 0} (xs : List A) → eqb (length xs) 0 ≡ false → 0 < length xs
some_from xs e = omega (arith, eqb-false (length xs) 0 e)

link-has : (link : Option (List ℕ)) → HasLinkRange link → HasLink link
link-has None range = record { wide = tt }
link-has (Some addr) range = record { wide = range.wide }

-- what is proved of a value that is written: it is kept unchanged where the attribute belongs, and it is octets
record Owed (ctx : Context) (has_nlri : Bool) (a : Attr) : Type 0 where
  kept : Belongs ctx has_nlri a → judgement ctx has_nlri (written_tlv ctx a) ≡ judged.Keep a
  octets : AreOctets (value_octets ctx a)

owed : (ctx : Context) (has_nlri : Bool) (a : Attr) → HasRanges a → Writes ctx a → Owed ctx has_nlri a
owed ctx has_nlri (attr.Origin o) r w = record { kept = λ in_place. kept-origin ctx has_nlri o; octets = AreOctets-one (origin_code o) (code-octet o) }
owed ctx has_nlri (attr.AsPath p) r w = record {
  kept = λ in_place. kept-as_path ctx has_nlri p (record { ranges = r; low = not_both ctx.as4 (any_number is_above_two_octets p) w.narrow; good = w.some; nonzero = w.nonzero });
  octets = path-octets ctx.as4 p.segments w.some;
}
owed ctx has_nlri (attr.NextHop addr) r w = record { kept = kept-next_hop ctx has_nlri addr r.wide; octets = r.octets }
owed ctx has_nlri (attr.Med n) r w = record { kept = λ in_place. kept-four ctx has_nlri class.OptionalNonTransitive false (λ n partial. attr.Med n) n r refl (four-passes class.OptionalNonTransitive false attribute.MULTI_EXIT_DISC n); octets = AreOctets-four n }
owed ctx has_nlri (attr.LocalPref n) r w =
    let passes = four-passes class.WellKnown false attribute.LOCAL_PREF n in
    record { kept = λ in_place. kept-four ctx has_nlri class.WellKnown false (λ n partial. attr.LocalPref n) n r refl (pass _ _ (ap not in_place), passes); octets = AreOctets-four n }
owed ctx has_nlri attr.Atomic r w = record { kept = λ in_place. this-kept ctx has_nlri attr.Atomic refl (refl, (refl, tt)); octets = AreOctets-nil }
owed ctx has_nlri (attr.Aggregator a) r w =
    record { kept = λ in_place. kept-aggregator ctx has_nlri a (fits_where ctx.as4 (a.asn).0 r.0 w.narrow) w.nonzero (r.1).wide; octets = aggregator-octets ctx.as4 a r.1 }
owed ctx has_nlri (attr.Communities c) r w = record { kept = λ in_place. kept-communities ctx has_nlri c r (some_from c.values w.some); octets = AreOctets-row true c.values }
owed ctx has_nlri (attr.MpReach (reach.Ip4 hop routes)) r w = record {
  kept = kept-reach4 ctx has_nlri hop routes (r.0).wide r.1;
  octets = reach-octets IPV4 hop routes (omega (arith, (r.0).wide)) (r.0).octets (run-octets 4 routes (omega arith) r.1);
}
owed ctx has_nlri (attr.MpReach (reach.Ip6 hop link routes)) r w =
    let both = link-octets hop link r.0 r.1 in
    record {
      kept = kept-reach6 ctx has_nlri hop link routes (r.0).wide (link-has link r.1) r.2;
      octets = reach-octets IPV6 (hop ++ link_octets link) routes both.0 both.1 (run-octets 16 routes (omega arith) r.2);
    }
owed ctx has_nlri (attr.MpUnreach (unreach.Ip4 routes)) r w = record { kept = kept-unreach4 ctx has_nlri routes r; octets = unreach-octets IPV4 routes (run-octets 4 routes (omega arith) r) }
owed ctx has_nlri (attr.MpUnreach (unreach.Ip6 routes)) r w = record { kept = kept-unreach6 ctx has_nlri routes r; octets = unreach-octets IPV6 routes (run-octets 16 routes (omega arith) r) }
owed ctx has_nlri (attr.As4Path p) r w =
    let some = or_parts (eqb (length (p.path).segments) 0) (list_any is_bad_segment (p.path).segments) w.some in
    let kept = kept-as4_path ctx has_nlri p (not_as4 ctx.as4 w.allowed) (record { ranges = r; low = λ e. absurd (true≢false e); good = some.1; nonzero = w.nonzero }) (some_from (p.path).segments some.0) in
    record { kept = λ in_place. kept; octets = path-octets true (p.path).segments some.1 }
owed ctx has_nlri (attr.As4Aggregator a) r w =
    record { kept = λ in_place. kept-as4_aggregator ctx has_nlri a (not_as4 ctx.as4 w.allowed) r.0 w.nonzero (r.1).wide; octets = aggregator-octets true a r.1 }
owed ctx has_nlri (attr.Large l) r w = record { kept = λ in_place. kept-large ctx has_nlri l r (some_from l.values w.some) w.once; octets = triples-octets l.values }
owed ctx has_nlri (attr.Opaque o) r w = record { kept = λ in_place. kept-opaque ctx has_nlri o w.named; octets = r.1 }

pub written-kept : (ctx : Context) (has_nlri : Bool) (a : Attr) → HasRanges a → is_writable ctx a ≡ true → Belongs ctx has_nlri a → judgement ctx has_nlri (written_tlv ctx a) ≡ judged.Keep a
written-kept ctx has_nlri a r e = (owed ctx has_nlri a r (writable-Writes ctx a e)).kept

type-octet : (a : Attr) → HasRanges a → type_of a < 256
type-octet (attr.Opaque o) r = r.0
type-octet _ r = lit< tt

pub canonical-octets : (ctx : Context) (a : Attr) → HasRanges a → is_writable ctx a ≡ true → AreOctets (canonical ctx a)
canonical-octets ctx a r e = made-octets (class_of a) (partial_of a) (type_of a) (value_octets ctx a) (type-octet a r) (owed ctx true a r (writable-Writes ctx a e)).octets
