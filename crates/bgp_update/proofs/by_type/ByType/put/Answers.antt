use Rattle.std.proofs.Common.{arith}
use Rattle.bgp_update.proofs.ByTypes.{put_at}
use Rattle.bgp_update.proofs.by_type.ByType.put.Goals as goal

pub returns : goal.returns
returns c = λ there old k. rw c.from.ensures (put_at c.args.self.now.of_type c.args.opaque there (omega (arith, c.are_all_types.ensures, c.ranges.opaque)) old k)
