use Rattle.bgp_engine.proofs.Prelude.{◌≡◌, ◌-◌, length, None, ReadsPairs}
use Rattle.bgp_engine.proofs.HexReads.{read_on}
use Rattle.bgp_engine.proofs.hex_text.HexText.take_pairs.Given as goal

abbrev pub invariant-pairs : goal.invariant-pairs
invariant-pairs l = record {
  so_far : ReadsPairs l.fn.self l.text l.rest l.fn.octets.items l.octets.items (read_on l.fn.self (length l.text - length l.rest));
  none : l.fn.self.pending ≡ None;
}

abbrev pub decreases-pairs : goal.decreases-pairs
decreases-pairs l = length l.rest
