use Rattle.bgp_wire.proofs.Walks.{not_more}
use Rattle.bgp_prefix.specs.Prelude.{PrefixValue, IsPrefix, one_prefix}
use Rattle.bgp_prefix.proofs.PrefixLemmas.{IsPrefix-reads}
use Rattle.bgp_prefix.proofs.iter.PrefixIterIterator.size_hint.Goals as goal

pub returns-clause-upper : goal.returns-clause-upper
returns-clause-upper g c = (tt, not_more PrefixValue (IsPrefix g.row.W) (one_prefix g.row.W) (IsPrefix-reads g.row.W) c.args.self.now.rest.now)
