use Rattle.bgp_engine.proofs.Prelude.{length}
use Rattle.bgp_engine.proofs.HexReads.{Decodes}
use Rattle.bgp_engine.proofs.hex_text.HexText.decode.Given as goal

abbrev pub invariant-text : goal.invariant-text
invariant-text l = Decodes l.fn.self l.text l.rest l.octets.items l.self

abbrev pub decreases-text : goal.decreases-text
decreases-text l = length l.rest
