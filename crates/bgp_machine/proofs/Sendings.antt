-- An UPDATE that may be sent is valid in the form in which the peer receives it.
use Rattle.bgp_machine.proofs.Prelude.{◌≡◌, Bool, true, false, Option, Some, None, refl, sym, ap, subst, Context, Update, HasNoAs4, narrowed_update, with_as4}
use Rattle.bgp_machine.proofs.Prelude.{invalid_of, wide_update_has_no_as4, narrowed_update_is_valid, is_mixed, or_mixed, why_unsent}
use Rattle.bgp_update.specs.declared.invalid.Invalid.{Invalid}

or_mixed_none : (mixed : Bool) (why : Option Invalid) → or_mixed mixed why ≡ None → why ≡ None
or_mixed_none false why is = is
or_mixed_none true None is = refl
or_mixed_none true (Some Invalid.Missing) is = absurd (let not : Some Invalid.Missing ≡ None = is in cc)
or_mixed_none true (Some Invalid.NextHop) is = absurd (let not : Some Invalid.NextHop ≡ None = is in cc)
or_mixed_none true (Some Invalid.LocalPref) is = absurd (let not : Some Invalid.LocalPref ≡ None = is in cc)
or_mixed_none true (Some Invalid.AsWidth) is = absurd (let not : Some Invalid.AsWidth ≡ None = is in cc)
or_mixed_none true (Some Invalid.As4) is = absurd (let not : Some Invalid.As4 ≡ None = is in cc)
or_mixed_none true (Some Invalid.Family) is = absurd (let not : Some Invalid.Family ≡ None = is in cc)
or_mixed_none true (Some Invalid.Empty) is = absurd (let not : Some Invalid.Empty ≡ None = is in cc)
or_mixed_none true (Some Invalid.Others) is = absurd (let not : Some Invalid.Others ≡ None = is in cc)
or_mixed_none true (Some Invalid.Mixed) is = absurd (let not : Some Invalid.Mixed ≡ None = is in cc)
or_mixed_none true (Some Invalid.BadOpen) is = absurd (let not : Some Invalid.BadOpen ≡ None = is in cc)
or_mixed_none true (Some Invalid.AsZero) is = absurd (let not : Some Invalid.Mixed ≡ None = is in cc)
or_mixed_none true (Some Invalid.Twice) is = absurd (let not : Some Invalid.Mixed ≡ None = is in cc)

same_width : (ctx : Context) (as4 : Bool) → ctx.as4 ≡ as4 → with_as4 as4 ctx ≡ ctx
same_width ctx as4 is = ap (λ (a : Bool). with_as4 a ctx) (sym is)

module _ (ctx : Context) (u : Update) (sendable : why_unsent ctx u ≡ None) where
  valid_wide : invalid_of (with_as4 true ctx) u ≡ None
  valid_wide = or_mixed_none (is_mixed u) (invalid_of (with_as4 true ctx) u) sendable

  pub told_valid : ctx.as4 ≡ true → invalid_of ctx u ≡ None
  told_valid as4 = subst (λ (c : Context). invalid_of c u ≡ None) (same_width ctx true as4) valid_wide

  pub told_narrow : HasNoAs4 u.attrs
  told_narrow = wide_update_has_no_as4 (with_as4 true ctx) u refl valid_wide

  pub told_narrow_valid : ctx.as4 ≡ false → invalid_of ctx (narrowed_update u) ≡ None
  told_narrow_valid as4 = subst (λ (c : Context). invalid_of c (narrowed_update u) ≡ None) (same_width ctx false as4) (narrowed_update_is_valid (with_as4 true ctx) u refl valid_wide)
