-- What follows where an UPDATE isn't refused, test by test.
use Rattle.std.proofs.Common.{◌≡◌, Bool, true, false, ◌&&◌, Option, None, refl, ap, ◌∙◌}
use Rattle.bgp_open.specs.declared.context.Context.{Context}
use Rattle.bgp_attr.specs.Prelude.{is_too_wide, is_as4, is_empty, has_as_zero, stands_twice, is_out_of_place}
use Rattle.bgp_update.specs.declared.invalid.Invalid.{Invalid}
use Rattle.bgp_update.specs.declared.update.Update.{Update}
use Rattle.bgp_update.specs.Prelude.{lacks_some, has_needless_next_hop, has_outside_preference, has_bad_others, any_attr, refused_if, invalid_of}

-- each reason not to write an UPDATE, absent
pub record IsAccepted (ctx : Context) (u : Update) : Type 0 where
  pub complete : lacks_some u ≡ false
  pub next_hop : has_needless_next_hop u ≡ false
  pub local_pref : has_outside_preference ctx u ≡ false
  pub narrow : any_attr (is_too_wide ctx) u ≡ false
  pub allowed : (ctx.as4 && any_attr is_as4 u) ≡ false
  pub family : any_attr (is_out_of_place ctx) u ≡ false
  pub some : any_attr is_empty u ≡ false
  pub others : has_bad_others u.attrs.others ≡ false
  pub nonzero : any_attr has_as_zero u ≡ false
  pub once : any_attr stands_twice u ≡ false

not_refused : (b : Bool) (why : Invalid) (later : Option Invalid) → refused_if b why later ≡ None → (b ≡ false) × (later ≡ None)
not_refused false why later e = (refl, e)
not_refused true why later e = absurd cc

accepted : (b : Bool) (why : Invalid) (later : Option Invalid) → b ≡ false → later ≡ None → refused_if b why later ≡ None
accepted b why later e more = ap (λ (t : Bool). refused_if t why later) e ∙ more

pub valid-accepted : (ctx : Context) (u : Update) → invalid_of ctx u ≡ None → IsAccepted ctx u
valid-accepted ctx u e =
    let a = not_refused (lacks_some u) _ _ e in
    let b = not_refused (has_needless_next_hop u) _ _ a.1 in
    let c = not_refused (has_outside_preference ctx u) _ _ b.1 in
    let d = not_refused (any_attr (is_too_wide ctx) u) _ _ c.1 in
    let f = not_refused (ctx.as4 && any_attr is_as4 u) _ _ d.1 in
    let g = not_refused (any_attr (is_out_of_place ctx) u) _ _ f.1 in
    let h = not_refused (any_attr is_empty u) _ _ g.1 in
    let i = not_refused (has_bad_others u.attrs.others) _ _ h.1 in
    let j = not_refused (any_attr has_as_zero u) _ _ i.1 in
    let k = not_refused (any_attr stands_twice u) _ _ j.1 in
    record { complete = a.0; next_hop = b.0; local_pref = c.0; narrow = d.0; allowed = f.0; family = g.0; some = h.0; others = i.0; nonzero = j.0; once = k.0 }

pub accepted-valid : (ctx : Context) (u : Update) → IsAccepted ctx u → invalid_of ctx u ≡ None
accepted-valid ctx u a =
    accepted (lacks_some u) _ _ a.complete (accepted (has_needless_next_hop u) _ _ a.next_hop (accepted (has_outside_preference ctx u) _ _ a.local_pref (
    accepted (any_attr (is_too_wide ctx) u) _ _ a.narrow (accepted (ctx.as4 && any_attr is_as4 u) _ _ a.allowed (accepted (any_attr (is_out_of_place ctx) u) _ _ a.family (
    accepted (any_attr is_empty u) _ _ a.some (accepted (has_bad_others u.attrs.others) _ _ a.others (accepted (any_attr has_as_zero u) _ _ a.nonzero (
    accepted (any_attr stands_twice u) _ _ a.once refl)))))))))
