use Rattle.std.proofs.Common.{length, None}
use Rattle.bgp_msg.specs.Prelude.{Decodes}
use Rattle.bgp_msg.proofs.decoding.decode_piece.Given as goal

-- the stream continues after what was consumed of the piece
abbrev pub invariant-piece : goal.invariant-piece
invariant-piece l = Decodes l.initial.decoder l.piece l.initial.outs.items l.outs.items l.rest None l.decoder

abbrev pub decreases-piece : goal.decreases-piece
decreases-piece l = length l.rest
