use Rattle.bgp_wire.proofs.Std.{take, [], None, flat_map}
use Rattle.bgp_msg.specs.Prelude.{fresh, Decodes}
use Rattle.bgp_msg.proofs.decoding.decode_all.Given as goal

-- the stream continues after the pieces so far
abbrev pub invariant-pieces : goal.invariant-pieces
invariant-pieces l = Decodes (fresh l.fn.ctx) (flat_map (λ piece. piece.now) (take l.piece-index l.pieces)) [] l.outs.items [] None l.decoder
