-- Which tests attributes fail, with one more attribute.
use Rattle.bgp_wire.proofs.Std.{◌≡◌, Bool, true, false, not, ◌||◌, ◌&&◌, List, [], ◌∷◌, ◌++◌, Option, Some, None, refl, sym, ap, ap₂, ◌∙◌, cond-true, cond-false, list_any, list_any-append}
use Rattle.std.specs.Prelude.{is_some}
use Rattle.std.proofs.lemmas.List.{append-nil}
use Rattle.bgp_open.specs.declared.context.Context.{Context}
use Rattle.bgp_attr.specs.declared.attr.Attr.{Attr}
use Rattle.bgp_attr.specs.Prelude.{is_too_wide, is_as4, is_empty, has_as_zero, stands_twice, is_out_of_place}
use Rattle.bgp_update.specs.declared.failed.Failed.{Failed}
use Rattle.bgp_update.specs.declared.invalid.Invalid.{Invalid}
use Rattle.bgp_update.specs.declared.invalid.Invalid.TheVariants as invalid
use Rattle.bgp_update.specs.declared.update.Update.{Update}
use Rattle.bgp_update.specs.Written.{has_nlri, refused_if}
use Rattle.bgp_update.specs.Prelude.{failed_by, also_failed, first_of, attr_list, lacks_some, has_needless_next_hop, has_outside_preference, has_bad_others, invalid_of}

any-push : (test : Attr → Bool) (xs : List Attr) (x : Attr) → list_any test (xs ++ x ∷ []) ≡ (list_any test xs || test x)
any-push test xs x = list_any-append test xs (x ∷ []) ∙ ap (λ (b : Bool). list_any test xs || b) (or-nil (test x))
  where
    or-nil : (b : Bool) → (b || false) ≡ b
    or-nil true = refl
    or-nil false = refl

pub failed_more : (ctx : Context) (xs : List Attr) (x : Attr) → failed_by ctx (xs ++ x ∷ []) ≡ also_failed (failed_by ctx xs) ctx x
failed_more ctx xs x =
    rw (any-push (is_too_wide ctx) xs x, any-push is_as4 xs x, any-push (is_out_of_place ctx) xs x, any-push is_empty xs x, any-push has_as_zero xs x, any-push stands_twice xs x) refl

-- with the attributes of one more type
module _ (ctx : Context) (xs ys all : List Attr) (are : all ≡ xs ++ ys) where
  pub with_one : (x : Attr) → x ∷ [] ≡ ys → also_failed (failed_by ctx xs) ctx x ≡ failed_by ctx all
  with_one x e = sym (ap (failed_by ctx) (are ∙ ap (λ (zs : List Attr). xs ++ zs) (sym e)) ∙ failed_more ctx xs x)

  pub with_none : [] ≡ ys → failed_by ctx xs ≡ failed_by ctx all
  with_none e = sym (ap (failed_by ctx) (are ∙ ap (λ (zs : List Attr). xs ++ zs) (sym e) ∙ append-nil xs))

-- ---- the first reason

module _ (ctx : Context) (u : Update) where
  pub missing_first : lacks_some u ≡ true → Some invalid.Missing ≡ invalid_of ctx u
  missing_first e = sym (cond-true (lacks_some u) (Some invalid.Missing) _ e)

  module _ (lacks : lacks_some u ≡ false) where
    pub next_hop_first : is_some u.attrs.next_hop ≡ true → has_nlri u ≡ false → Some invalid.NextHop ≡ invalid_of ctx u
    next_hop_first e f =
        sym (cond-false (lacks_some u) (Some invalid.Missing) _ lacks
        ∙ cond-true (has_needless_next_hop u) (Some invalid.NextHop) _ (ap₂ (λ (a b : Bool). a && not b) e f))

    module _ (needless : has_needless_next_hop u ≡ false) where
      pub preference_first : is_some u.attrs.local_pref ≡ true → ctx.internal ≡ false → Some invalid.LocalPref ≡ invalid_of ctx u
      preference_first e f =
          sym (cond-false (lacks_some u) (Some invalid.Missing) _ lacks
          ∙ cond-false (has_needless_next_hop u) (Some invalid.NextHop) _ needless
          ∙ cond-true (has_outside_preference ctx u) (Some invalid.LocalPref) _ (ap₂ (λ (a b : Bool). a && not b) e f))

      pub failed_first : has_outside_preference ctx u ≡ false → first_of (failed_by ctx (attr_list u.attrs)) ctx.as4 (has_bad_others u.attrs.others) ≡ invalid_of ctx u
      failed_first outside =
          sym (cond-false (lacks_some u) (Some invalid.Missing) _ lacks
          ∙ cond-false (has_needless_next_hop u) (Some invalid.NextHop) _ needless
          ∙ cond-false (has_outside_preference ctx u) (Some invalid.LocalPref) _ outside)

not_refused : (test : Bool) (why : Invalid) (later : Option Invalid) → refused_if test why later ≡ None → (test ≡ false) × (later ≡ None)
not_refused true why later e = absurd cc
not_refused false why later e = (refl, e)

-- where no reason is left, the attributes of unrecognised types are good
pub others_good : (f : Failed) (as4 bad : Bool) → first_of f as4 bad ≡ None → bad ≡ false
others_good f as4 bad e =
    let wide = not_refused f.too_wide invalid.AsWidth _ e in
    let four = not_refused (as4 && f.as4) invalid.As4 _ wide.1 in
    let family = not_refused f.other_family invalid.Family _ four.1 in
    let empty = not_refused f.empty invalid.Empty _ family.1 in
    (not_refused bad invalid.Others _ empty.1).0

pub never_none : {P : Type 0} (why : Invalid) → Some why ≡ None → P
never_none why e = absurd cc
