use Rattle.std.proofs.Common.{◌/◌, ◌<◌, length, refl, arith}
use Rattle.bgp_wire.proofs.SetWords.{one_more}
use Rattle.bgp_wire.proofs.octet_set.OctetSet.insert.Goals as goal

pub returns : goal.returns
returns c =
    let words = c.args.self.now.words in
    let within : c.args.octet / 64 < length words = omega arith in
    rw c.from-place.ensures (λ i k. one_more words c.args.octet _ within refl k i)
