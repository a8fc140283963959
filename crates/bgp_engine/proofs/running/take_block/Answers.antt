use Rattle.bgp_engine.proofs.BlockLemmas.{MeetsOver-raw, MeetsOver-hex}
use Rattle.bgp_engine.proofs.running.take_block.Goals as goal

pub returns-then-over-clause-meets : goal.returns-then-over-clause-meets
returns-then-over-clause-meets g c =
    let e = g.E.Engine in
    MeetsOver-raw c.args.hex c.args.reader.now c.args.reader.now (e.reports (e.state c.args.engine.now)) (e.reports (e.state c.take.new.self)) (e.going (e.state c.take.new.self)) (e.told c.args.engine.now) (e.told c.take.new.self) c.args.block.now
    c.in_ok-over.over c.if-not-hex.true c.requires.raw c.in_ok-over.ensures.takes c.if-over.true

pub returns-then-over-2-clause-meets : goal.returns-then-over-2-clause-meets
returns-then-over-2-clause-meets g c =
    let e = g.E.Engine in
    MeetsOver-hex c.args.hex c.args.reader.now c.decode-bad.new.self (e.reports (e.state c.args.engine.now)) (e.reports (e.state c.take-2.new.self)) (e.going (e.state c.take-2.new.self)) (e.told c.args.engine.now) (e.told c.take-2.new.self) c.args.block.now
    c.decode-bad.new.octets.items c.deref.result.now c.decode-bad.result c.in_ok-over-2.over c.if-not-hex.false c.decode-bad.ensures.decodes c.deref.ensures.0 c.in_ok-over-2.ensures.takes c.if-over-2.true
