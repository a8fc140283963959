use Rattle.ristulva_c.proofs.Below.{◌≡◌, None, sym, ap, subst, ◌∙◌, Context, Found, update_value, notes_value, found_value}
use Rattle.bgp_update.specs.Prelude.{invalid_of}
use Rattle.ristulva_c.proofs.Encodings.{taken_is_valid}
use Rattle.ristulva_c.proofs.sending.made_of.Goals as goal

pub whole-requires-clause-valid : goal.whole-requires-clause-valid
whole-requires-clause-valid c =
    let view = c.judge.new.self in
    let wide = c.with_as4-wide.result in
    subst (λ (x : Context). invalid_of x (update_value view) ≡ None) c.with_as4-wide.ensures
    (taken_is_valid wide c.args.body.now (update_value view) (notes_value view) c.are_octets.ensures
    (sym c.judge.ensures ∙ ap (λ (f : Found). found_value f view) c.in-Take.is))
