use Rattle.std.proofs.Common.{rules, ◌/◌, refl}
use Rattle.bgp_wire.proofs.SetWords.{others}
use Rattle.bgp_wire.proofs.octet_set.OctetSet.others.Goals as goal

pub returns : goal.returns
returns c = λ i k. others c.args.self.now.words k (k / 64) refl (search rules) (search rules) (search rules) (search rules) i
