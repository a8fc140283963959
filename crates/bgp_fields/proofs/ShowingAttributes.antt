-- The prefixes that an attribute shows are the routes that are kept of it.
use Rattle.bgp_fields.proofs.Prelude.{◌≡◌, ℕ, ◌+◌, Bool, true, false, cond, not, List, [], ◌∷◌, ◌++◌, length, Option, Some, None, refl, sym, ap, subst, arith}
use Rattle.bgp_fields.proofs.Prelude.{not-false, ltb-false, not-true, true≢false, append-nil, ORIGIN, AS_PATH, NEXT_HOP, MULTI_EXIT_DISC, LOCAL_PREF}
use Rattle.bgp_fields.proofs.Prelude.{ATOMIC_AGGREGATE, AGGREGATOR, COMMUNITIES, MP_REACH_NLRI, MP_UNREACH_NLRI, AS4_PATH, AS4_AGGREGATOR, LARGE_COMMUNITY}
use Rattle.bgp_fields.proofs.Prelude.{Notification, AreOctets, when, Context, PrefixValue, Attr, Judged, MpReach, MpUnreach, Why, family_of, is_in_use}
use Rattle.bgp_fields.proofs.Prelude.{address_width, is_next_hop_length, next_hop_length, reached_of, mp_reach_of, withdrawn_of, mp_unreach_of, TlvValue}
use Rattle.bgp_fields.proofs.Prelude.{is_shorter, has_bad_prefix, mp_reach_tests, mp_unreach_tests, is_recognised, decided, judgement, mp_reach-spells}
use Rattle.bgp_fields.proofs.Prelude.{mp_unreach-spells, ◌&◌, by_row, entry-other, passed, by_type, by_kept, malformed, carries_routes, repeated, reset_by}
use Rattle.bgp_fields.proofs.Prelude.{as_mp_reach, as_mp_unreach, FieldKind, ValuePart, attribute_values, attribute_value}
use Rattle.bgp_attr.specs.Prelude.{AttributeType}
use Rattle.bgp_numbers.specs.declared.error.TheConstants.{UPDATE_MESSAGE, OPTIONAL_ATTRIBUTE}
use Rattle.bgp_fields.proofs.ShowingValues.{is_plain, ValueShows, plain-shows, reach_shown, unreach_shown, reach-shows, unreach-shows, unused-shows}

-- it is discarded, and the session continues
abbrev IsDropped : Judged → Type 0
IsDropped (Judged.Discard w) = Unit {0}
IsDropped (Judged.Withdraw w) = Unit {0}
IsDropped _ = ⊥

reach-dropped : (a b c d e f : Bool) (n : Notification) (w : Why) (x : Attr)
    → IsDropped (decided (when a (Judged.Reset n) ∷ when b (Judged.Reset n) ∷ when c (Judged.Discard w) ∷ when d (Judged.Reset n) ∷ when e (Judged.Reset n) ∷ when f (Judged.Reset n) ∷ []) x)
    → (b ≡ false) × (c ≡ true)
reach-dropped true b c d e f n w x is = absurd is
reach-dropped false true c d e f n w x is = absurd is
reach-dropped false false true d e f n w x is = (refl, refl)
reach-dropped false false false true e f n w x is = absurd is
reach-dropped false false false false true f n w x is = absurd is
reach-dropped false false false false false true n w x is = absurd is
reach-dropped false false false false false false n w x is = absurd is

unreach-dropped : (a b c d : Bool) (n : Notification) (w : Why) (x : Attr)
    → IsDropped (decided (when a (Judged.Reset n) ∷ when b (Judged.Reset n) ∷ when c (Judged.Discard w) ∷ when d (Judged.Reset n) ∷ []) x)
    → (b ≡ false) × (c ≡ true)
unreach-dropped true b c d n w x is = absurd is
unreach-dropped false true c d n w x is = absurd is
unreach-dropped false false true d n w x is = (refl, refl)
unreach-dropped false false false true n w x is = absurd is
unreach-dropped false false false false n w x is = absurd is

-- the NOTIFICATION of a reset by one of the two types that carry routes
abbrev says : TlvValue → Notification
says t = record { code = UPDATE_MESSAGE; subcode = OPTIONAL_ATTRIBUTE; info = record { items = t.whole } }

reach-tests : (ctx : Context) (t : TlvValue) (x : Attr) → IsDropped (decided (mp_reach_tests ctx t) x)
    → (is_shorter 5 t ≡ false) × (not (is_in_use ctx (family_of t.value)) ≡ true)
reach-tests ctx t x d =
    reach-dropped _ (is_shorter 5 t) (not (is_in_use ctx (family_of t.value)))
    (not (is_next_hop_length (family_of t.value) (next_hop_length t.value))) (is_shorter (5 + next_hop_length t.value) t)
    (has_bad_prefix (address_width (family_of t.value)) (reached_of t.value)) (says t) Why.Family x d

unreach-tests : (ctx : Context) (t : TlvValue) (x : Attr) → IsDropped (decided (mp_unreach_tests ctx t) x)
    → (is_shorter 3 t ≡ false) × (not (is_in_use ctx (family_of t.value)) ≡ true)
unreach-tests ctx t x d =
    unreach-dropped _ (is_shorter 3 t) (not (is_in_use ctx (family_of t.value)))
    (has_bad_prefix (address_width (family_of t.value)) (withdrawn_of t.value)) (says t) Why.Family x d

-- a type that carries no routes shows none
plain-kind : (ctx : Context) (kind : ℕ) → carries_routes kind ≡ false → is_plain (attribute_value ctx kind) ≡ true
plain-kind ctx kind none =
    by_row kind (ValuePart.All FieldKind.AttributeValue) (λ (k : ℕ) (part : ValuePart). carries_routes k ≡ false → is_plain part ≡ true) (attribute_values ctx)
    ((λ e. refl) & (λ e. refl) & (λ e. refl) & (λ e. refl) & (λ e. refl) & (λ e. refl) & (λ e. refl) & (λ e. refl)
    & (λ e. absurd (true≢false e)) & (λ e. absurd (true≢false e)) & (λ e. refl) & (λ e. refl) & (λ e. refl) & tt)
    (λ other e. refl) none

module _ (ctx : Context) (chosen : FieldKind → Bool) where
  abbrev pub reach_opt : Option MpReach → List PrefixValue
  reach_opt None = []
  reach_opt (Some r) = reach_shown ctx chosen r

  abbrev pub unreach_opt : Option MpUnreach → List PrefixValue
  unreach_opt None = []
  unreach_opt (Some r) = unreach_shown ctx chosen r

  -- what a kept attribute shows
  abbrev pub attr_shown : Attr → List PrefixValue
  attr_shown a = reach_opt (as_mp_reach a) ++ unreach_opt (as_mp_unreach a)

  abbrev pub judged_shown : Judged → List PrefixValue
  judged_shown (Judged.Keep a) = attr_shown a
  judged_shown _ = []

  module _ (nlri : Bool) (t : TlvValue) where
    abbrev Here : List PrefixValue → Type 0
    Here ps = ValueShows ctx chosen (attribute_value ctx t.kind) t.value ps

    at-kind : (kind : ℕ) (ps : List PrefixValue) → t.kind ≡ kind → ValueShows ctx chosen (attribute_value ctx kind) t.value ps → Here ps
    at-kind kind ps e shows = subst (λ (k : ℕ). ValueShows ctx chosen (attribute_value ctx k) t.value ps) (sym e) shows

    plain-at : (kind : ℕ) → t.kind ≡ kind → is_plain (attribute_value ctx kind) ≡ true → Here []
    plain-at kind e plain = at-kind kind [] e (plain-shows ctx chosen (attribute_value ctx kind) t.value plain)

    other-shows : is_recognised t.kind ≡ false → Here []
    other-shows other =
        plain-shows ctx chosen (attribute_value ctx t.kind) t.value (ap is_plain (entry-other t.kind (ValuePart.All FieldKind.AttributeValue) (attribute_values ctx) other))

    kept-shows : (a : Attr) → AreOctets t.value → judgement ctx nlri t ≡ Judged.Keep a → Here (attr_shown a)
    kept-shows a octets keeps =
        by_kept ctx nlri t (λ (x : Attr). Here (attr_shown x))
        ((λ e none. plain-at ORIGIN e refl) & (λ e none. plain-at AS_PATH e refl) & (λ e none. plain-at NEXT_HOP e refl) & (λ e none. plain-at MULTI_EXIT_DISC e refl)
        & (λ e none. plain-at LOCAL_PREF e refl) & (λ e none. plain-at ATOMIC_AGGREGATE e refl) & (λ e none. plain-at AGGREGATOR e refl) & (λ e none. plain-at COMMUNITIES e refl)
        & (λ e none. subst Here (sym (append-nil (reach_shown ctx chosen (mp_reach_of t.value))))
        (at-kind MP_REACH_NLRI _ e (reach-shows ctx chosen t.value (not-false _ (passed _ _ none.1.1.0)) (mp_reach-spells ctx t octets e none).value)))
        & (λ e none. at-kind MP_UNREACH_NLRI _ e (unreach-shows ctx chosen t.value (not-false _ (passed _ _ none.1.1.0)) (mp_unreach-spells ctx t octets e none).value))
        & (λ e none. plain-at AS4_PATH e refl) & (λ e none. plain-at AS4_AGGREGATOR e refl) & (λ e none. plain-at LARGE_COMMUNITY e refl) & tt)
        (λ other none. other-shows other) a keeps

    dropped-shows : IsDropped (judgement ctx nlri t) → Here []
    dropped-shows =
        by_type ctx nlri t (λ (type : AttributeType). IsDropped (decided type.tests type.value) → Here [])
        ((λ e d. plain-at ORIGIN e refl) & (λ e d. plain-at AS_PATH e refl) & (λ e d. plain-at NEXT_HOP e refl) & (λ e d. plain-at MULTI_EXIT_DISC e refl)
        & (λ e d. plain-at LOCAL_PREF e refl) & (λ e d. plain-at ATOMIC_AGGREGATE e refl) & (λ e d. plain-at AGGREGATOR e refl) & (λ e d. plain-at COMMUNITIES e refl)
        & (λ e d. let tests = reach-tests ctx t (Attr.MpReach (mp_reach_of t.value)) d in let long = ltb-false (length t.value) 5 tests.0 in
        at-kind MP_REACH_NLRI [] e (unused-shows ctx chosen true t.value (omega (arith, long)) (not-true _ tests.1)))
        & (λ e d. let tests = unreach-tests ctx t (Attr.MpUnreach (mp_unreach_of t.value)) d in
        at-kind MP_UNREACH_NLRI [] e (unused-shows ctx chosen false t.value (ltb-false (length t.value) 3 tests.0) (not-true _ tests.1)))
        & (λ e d. plain-at AS4_PATH e refl) & (λ e d. plain-at AS4_AGGREGATOR e refl) & (λ e d. plain-at LARGE_COMMUNITY e refl) & tt)
        (λ other d. other-shows other)

    first-shows : (j : Judged) → judgement ctx nlri t ≡ j → AreOctets t.value → reset_by j ≡ None → Here (judged_shown j)
    first-shows (Judged.Keep a) is octets goes = kept-shows a octets is
    first-shows (Judged.Discard w) is octets goes = dropped-shows (subst IsDropped (sym is) tt)
    first-shows (Judged.Withdraw w) is octets goes = dropped-shows (subst IsDropped (sym is) tt)
    first-shows (Judged.Reset n) is octets goes = absurd cc

    repeated-shows : (routes : Bool) → carries_routes t.kind ≡ routes → reset_by (repeated t.kind) ≡ None → Here (judged_shown (repeated t.kind))
    repeated-shows true e goes = absurd (let is : Some malformed ≡ None = rw e at goes in cc)
    repeated-shows false e goes = rw e (plain-shows ctx chosen (attribute_value ctx t.kind) t.value (plain-kind ctx t.kind e))

    -- an attribute, after others of which its type was seen or not
    pub judged-shows : (seen : Bool) → AreOctets t.value → reset_by (cond seen (repeated t.kind) (judgement ctx nlri t)) ≡ None
        → Here (judged_shown (cond seen (repeated t.kind) (judgement ctx nlri t)))
    judged-shows true octets goes = repeated-shows (carries_routes t.kind) refl goes
    judged-shows false octets goes = first-shows (judgement ctx nlri t) refl octets goes
