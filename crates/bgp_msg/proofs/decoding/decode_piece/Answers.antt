use Rattle.std.proofs.Common.{List, ℕ, drop, Option, None, Some, sym, subst}
use Rattle.bgp_frame.specs.declared.end.End.{End}
use Rattle.bgp_msg.specs.Prelude.{Decodes}
use Rattle.bgp_msg.proofs.Decodings.{decodes_from, further, over}
use Rattle.bgp_msg.proofs.decoding.decode_piece.Goals as goal

pub piece-init : goal.piece-init
piece-init c = decodes_from c.args.decoder.now c.args.piece.now c.args.outs.now.items c.requires.going c.requires.waits

pub returns-in_default-Some : goal.returns-in_default-Some
returns-in_default-Some c =
    let rest = drop c.in_ok-end.field-0.0 c.piece.rest.now in
    over c.args.decoder.now c.step.new.decoder c.args.piece.now rest c.args.outs.now.items c.step.new.outs.items c.in_default-Some.end
    (further c.args.decoder.now c.piece.decoder c.step.new.decoder c.args.piece.now c.piece.rest.now rest c.args.outs.now.items c.piece.outs.items c.step.new.outs.items (Some c.in_default-Some.end) c.piece.invariant
    (subst (λ (ended : Option End). Decodes c.piece.decoder c.piece.rest.now c.piece.outs.items c.step.new.outs.items rest ended c.step.new.decoder) c.in_default-Some.is-1 c.in_ok-end.ensures.decodes))

pub piece-preserved : goal.piece-preserved
piece-preserved c =
    let rest = drop c.in_ok-end.field-0.0 c.piece.rest.now in
    subst (λ (r : List ℕ). Decodes c.args.decoder.now c.args.piece.now c.args.outs.now.items c.step.new.outs.items r None c.step.new.decoder) (sym c.split_at.ensures.back)
    (further c.args.decoder.now c.piece.decoder c.step.new.decoder c.args.piece.now c.piece.rest.now rest c.args.outs.now.items c.piece.outs.items c.step.new.outs.items None c.piece.invariant
    (subst (λ (ended : Option End). Decodes c.piece.decoder c.piece.rest.now c.piece.outs.items c.step.new.outs.items rest ended c.step.new.decoder) c.in_default-None.is-1 c.in_ok-end.ensures.decodes))
