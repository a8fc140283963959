-- The large communities that an iterator has left.
use Rattle.std.specs.Prelude.{ℕ, List}
use Rattle.bgp_attr.specs.declared.large_iter.LargeCommIter.{LargeCommIter}
use Rattle.bgp_attr.specs.LargeStep.{new_from}

-- the communities not yet returned
abbrev pub triples_left : LargeCommIter → List (List ℕ)
triples_left it = new_from it.octets.now it.at
