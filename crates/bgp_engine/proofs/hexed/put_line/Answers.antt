use Rattle.bgp_engine.proofs.Digits.{ok_hex_line}
use Rattle.bgp_engine.proofs.hexed.put_line.Goals as goal

pub returns : goal.returns
returns c =
    let last = c.extend_from_slice in
    ok_hex_line last.result c.args.header.now c.args.body.now c.args.text.now.items c.put_digits.new.text.items c.put_digits-2.new.text.items last.new.self.items
    c.in_ok-put_digits.ensures c.in_ok-put_digits-2.ensures last.ensures.items
