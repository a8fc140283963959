use Rattle.bgp_wire.proofs.Std.{◌≡◌, ◌+◌, ℕ, List, [], None, Some, take, length, Bor, refl, sym, subst, arith, flat_map}
use Rattle.std.proofs.lemmas.List.{take_all}
use Rattle.bgp_frame.specs.declared.end.End.TheVariants as end
use Rattle.bgp_frame.specs.Prelude.{Gives}
use Rattle.bgp_frame.proofs.Pulls.{nothing_waits}
use Rattle.bgp_msg.specs.Prelude.{stream_rules, Decoding, fresh, Decodes}
use Rattle.bgp_msg.proofs.Decodings.{Outs, decodes_from, octets_in, one_more, ends_early, waits_at_end}
use Rattle.bgp_msg.proofs.decoding.decode_all.Goals as goal
use Rattle.bgp_frame.specs.Kind.{plain}
use Rattle.bgp_frame.specs.steps.AreTypes.{plain-are}

pub pieces-init : goal.pieces-init
pieces-init c =
    let ctx = c.args.ctx.now in
    subst (λ (d : Decoding). Decodes (fresh ctx) [] [] c.new-outs.result.items [] None d) (sym c.new-decoder.ensures)
    (subst (λ (os : Outs). Decodes (fresh ctx) [] [] os [] None (fresh ctx)) (sym c.new-outs.ensures.items) (decodes_from (fresh ctx) [] [] refl (nothing_waits plain plain-are)))

pub returns-in-Some : goal.returns-in-Some
returns-in-Some c =
    let ctx = c.args.ctx.now in
    let i = c.pieces.piece-index in
    subst (λ (os : Outs). Gives (stream_rules ctx) (flat_map octets_in c.args.pieces.now) os c.in-Some.end) (sym c.from_vec.ensures)
    (ends_early ctx c.args.pieces.now (i + 1) c.decode_piece.new.outs.items c.decode_piece.new.decoder c.in-Some.end
    (one_more ctx c.args.pieces.now i c.pieces.decoder c.decode_piece.new.decoder c.pieces.outs.items c.decode_piece.new.outs.items c.pieces-test.true c.pieces.invariant
    _ c.in_ok-end.field-0 (Some c.in-Some.end) c.in-Some.is c.in_ok-end.ensures))

pub pieces-preserved : goal.pieces-preserved
pieces-preserved c =
    one_more c.args.ctx.now c.args.pieces.now c.pieces.piece-index c.pieces.decoder c.decode_piece.new.decoder c.pieces.outs.items c.decode_piece.new.outs.items c.pieces-test.true c.pieces.invariant
    _ c.in_ok-end.field-0 None c.in_default.is c.in_ok-end.ensures

pub returns : goal.returns
returns c =
    let ctx = c.args.ctx.now in
    let pieces = c.args.pieces.now in
    let i = c.pieces.piece-index in
    let all : take i pieces ≡ pieces = take_all i pieces (omega (arith, c.pieces-test.false)) in
    subst (λ (n : ℕ). Gives (stream_rules ctx) (flat_map octets_in pieces) c.from_vec-2.result (end.Wait n)) (sym c.held.ensures.value)
    (subst (λ (os : Outs). Gives (stream_rules ctx) (flat_map octets_in pieces) os (end.Wait (length c.pieces.decoder.held))) (sym c.from_vec-2.ensures)
    (waits_at_end ctx (flat_map octets_in pieces) c.pieces.outs.items c.pieces.decoder
    (subst (λ (xs : List (Bor (List ℕ))). Decodes (fresh ctx) (flat_map octets_in xs) [] c.pieces.outs.items [] None c.pieces.decoder) all c.pieces.invariant)))
