-- The prefixes that an iterator has left.
use Rattle.std.specs.Prelude.{ℕ, List}
use Rattle.bgp_prefix.specs.declared.iter.PrefixIter.{PrefixIter}
use Rattle.bgp_prefix.specs.Prefix.{PrefixValue}
use Rattle.bgp_prefix.specs.Run.{run_of}

-- the prefixes not yet returned
abbrev pub prefixes_left : {width : ℕ} → PrefixIter width → List PrefixValue
prefixes_left {width = width} it = (run_of width it.rest.now).0
