use Rattle.ristulva_c.proofs.Below.{◌≡◌, sym, ap, ◌∙◌, Found, verdict_of, update_value, notes_value, found_value}
use Rattle.bgp_update.specs.declared.verdict.Verdict.TheVariants as verdict
use Rattle.ristulva_c.proofs.Encodings.{taken_has_no_as4, taken_is_valid}
use Rattle.ristulva_c.proofs.encode.narrowed.Goals as goal

pub whole_narrowed-requires : goal.whole_narrowed-requires
whole_narrowed-requires c =
    let view = c.judge.new.self in
    let u = update_value view in
    let notes = notes_value view in
    let taken : verdict_of c.args.ctx.now c.args.body.now ≡ verdict.Take u notes = sym c.judge.ensures ∙ ap (λ (f : Found). found_value f view) c.in-Take.is in
    record {
      plain = taken_has_no_as4 c.args.ctx.now c.args.body.now u notes c.requires.wide c.are_octets.ensures taken;
      wide = c.requires.wide;
      valid = taken_is_valid c.args.ctx.now c.args.body.now u notes c.are_octets.ensures taken;
    }
