use Rattle.bgp_engine.proofs.Prelude.{rules}
use Rattle.bgp_engine.proofs.HexReads.{ReadsPairs-starts, ReadsPairs-more}
use Rattle.bgp_engine.proofs.hex_text.HexText.take_pairs.Goals as goal

pub pairs-init : goal.pairs-init
pairs-init c = record { so_far = ReadsPairs-starts c.args.self.now c.args.text.now c.args.octets.now.items; none = search rules }

pub pairs-preserved : goal.pairs-preserved
pairs-preserved c =
    let at = c.pairs in
    record {
      so_far = ReadsPairs-more c.args.self.now c.args.text.now at.rest.now c.in-Some.behind.now c.args.octets.now.items at.octets.items _ c.in-Some.octet at.invariant.so_far at.invariant.none c.in-Some.ensures
          c.in-Some.ensures.is_pair.small c.push.ensures.items;
      none = at.invariant.none;
    }
