-- Attributes that are kept can be read to their end.
use Rattle.bgp_fields.proofs.Prelude.{◌≡◌, ℕ, Bool, true, false, eqb, not, List, length, None, refl, sym, subst, arith, eqb-true, not-false, nil_from_length}
use Rattle.bgp_fields.proofs.Prelude.{ORIGIN, AS_PATH, NEXT_HOP, MULTI_EXIT_DISC, LOCAL_PREF, ATOMIC_AGGREGATE, AGGREGATOR, COMMUNITIES, MP_REACH_NLRI}
use Rattle.bgp_fields.proofs.Prelude.{MP_UNREACH_NLRI, AS4_PATH, AS4_AGGREGATOR, LARGE_COMMUNITY, Context, AreOctets, Attr, number_width, IsNumber, IsTriple}
use Rattle.bgp_fields.proofs.Prelude.{TlvValue, as_path_form, as4_path_form, aggregator_tests, judgement, Judged, aggregator-spells, communities-spells}
use Rattle.bgp_fields.proofs.Prelude.{large-spells, mp_reach-spells, mp_unreach-spells, ◌&◌, entry-other, NoneApplies, passed, passed_fault, by_kept}
use Rattle.bgp_fields.proofs.Prelude.{FieldKind, ValuePart, attribute_values, attribute_value}
use Rattle.bgp_attr.proofs.SegmentRows.{fault-path}
use Rattle.bgp_fields.proofs.Readable.{ValueRead, value-none, value-front}
use Rattle.bgp_fields.proofs.ReadableValues.{one-read, row-read, all-read, path-read, width-some}
use Rattle.bgp_fields.proofs.ReadableRoutes.{reach-read, unreach-read}

module _ (ctx : Context) (t : TlvValue) where
  as_long : (n : ℕ) → not (eqb (length t.value) n) ≡ false → length t.value ≡ n
  as_long n e = eqb-true (length t.value) n (not-false _ e)

  -- the value of an attribute of this type
  abbrev pub KindRead : ℕ → Type 0
  KindRead kind = ValueRead ctx (attribute_value ctx kind) t.value

  at-kind : (kind : ℕ) → t.kind ≡ kind → KindRead kind → KindRead t.kind
  at-kind kind e read = subst KindRead (sym e) read

  aggregator-read : (kind : ℕ) (wide : Bool) → t.kind ≡ kind → NoneApplies (aggregator_tests wide t) → ValueRead ctx (ValuePart.Aggregator wide) t.value
  aggregator-read kind wide e none =
      let s = aggregator-spells ctx t kind wide e none in
      subst (ValueRead ctx (ValuePart.Aggregator wide)) (sym s.value)
      (value-front ctx (ValuePart.Aggregator wide) s.number _ None FieldKind.AsNumber (number_width wide) (ValuePart.One FieldKind.Address 4) refl (s.asn).as_wide (width-some ctx wide) refl
      (one-read ctx FieldKind.Address 4 _ s.four (omega arith) refl))

  none-read : (part : ValuePart) → length t.value ≡ 0 → ValueRead ctx part t.value
  none-read part none = subst (ValueRead ctx part) (sym (nil_from_length t.value none)) (value-none ctx part)

  pub kept-read : (has_nlri : Bool) (a : Attr) → AreOctets t.value → judgement ctx has_nlri t ≡ Judged.Keep a → KindRead t.kind
  kept-read has_nlri a octets keeps =
      by_kept ctx has_nlri t (λ (x : Attr). KindRead t.kind)
      ((λ e none. at-kind ORIGIN e (one-read ctx FieldKind.Origin 1 t.value (as_long 1 (passed _ _ none.1.0)) (omega arith) refl))
      & (λ e none. at-kind AS_PATH e (let p = fault-path (as_path_form ctx) t.value (passed_fault (λ fault. Judged.Withdraw fault) _ none.1.0) in
      path-read ctx ctx.as4 false p.segments t.value p.row))
      & (λ e none. at-kind NEXT_HOP e (one-read ctx FieldKind.Address 4 t.value (as_long 4 (passed _ _ none.1.1.0)) (omega arith) refl))
      & (λ e none. at-kind MULTI_EXIT_DISC e (one-read ctx FieldKind.Med 4 t.value (as_long 4 (passed _ _ none.1.0)) (omega arith) refl))
      & (λ e none. at-kind LOCAL_PREF e (one-read ctx FieldKind.LocalPref 4 t.value (as_long 4 (passed _ _ none.1.1.0)) (omega arith) refl))
      & (λ e none. at-kind ATOMIC_AGGREGATE e (none-read (ValuePart.All FieldKind.Unread) (as_long 0 (passed _ _ none.1.0))))
      & (λ e none. at-kind AGGREGATOR e (aggregator-read AGGREGATOR ctx.as4 e none))
      & (λ e none. at-kind COMMUNITIES e (row-read ctx ℕ (IsNumber true) FieldKind.Community 4 (λ v b is. is.as_wide) (omega arith) refl _ t.value (communities-spells ctx t e none).row))
      & (λ e none. at-kind MP_REACH_NLRI e (reach-read ctx t.value (not-false _ (passed _ _ none.1.1.0)) (mp_reach-spells ctx t octets e none).value))
      & (λ e none. at-kind MP_UNREACH_NLRI e (unreach-read ctx t.value (not-false _ (passed _ _ none.1.1.0)) (mp_unreach-spells ctx t octets e none).value))
      & (λ e none. at-kind AS4_PATH e (let p = fault-path as4_path_form t.value (passed_fault (λ fault. Judged.Discard fault) _ none.1.1.1.0) in
      path-read ctx true true p.segments t.value p.row))
      & (λ e none. at-kind AS4_AGGREGATOR e (aggregator-read AS4_AGGREGATOR true e none.1))
      & (λ e none. at-kind LARGE_COMMUNITY e (let s = large-spells ctx t e none in
      row-read ctx (List ℕ) IsTriple FieldKind.LargeCommunity 12 (λ v b is. is.twelve) (omega arith) refl s.triples t.value s.row))
      & tt)
      (λ other none. subst (λ (part : ValuePart). ValueRead ctx part t.value)
      (sym (entry-other t.kind (ValuePart.All FieldKind.AttributeValue) (attribute_values ctx) other)) (all-read ctx FieldKind.AttributeValue t.value refl))
      a keeps
