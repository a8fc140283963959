use Rattle.ristulva_c.proofs.Below.{sym, ap, ◌∙◌, Found, update_value, notes_value, found_value}
use Rattle.ristulva_c.proofs.Encodings.{taken_written}
use Rattle.ristulva_c.proofs.encode.encoded.Goals as goal

pub whole-requires : goal.whole-requires
whole-requires c =
    let view = c.judge.new.self in
    taken_written c.args.ctx.now (update_value view) c.args.body.now (notes_value view) c.are_octets.ensures c.requires
    (sym c.judge.ensures ∙ ap (λ (f : Found). found_value f view) c.in-Take.is)
