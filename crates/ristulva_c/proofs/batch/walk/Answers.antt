use Rattle.ristulva_c.proofs.Batches.{walk_more, walk_ends}
use Rattle.ristulva_c.proofs.batch.walk.Goals as goal

pub messages-preserved : goal.messages-preserved
messages-preserved g c =
    walk_more g.B.Batch.gives c.args.ctx.now c.args.octets.now c.messages.taken c.in-Ok.len c.messages.written c.in-Ok.behind c.args.list.now c.messages.list c.take.new.list c.messages.invariant c.in-Ok.ensures

pub returns : goal.returns
returns g c =
    walk_ends g.B.Batch.gives c.args.ctx.now c.args.octets.now c.messages.taken c.messages.written c.args.list.now c.messages.list c.args.written.now c.args.taken.now c.messages.invariant c.messages-test.false
