-- The numbers that iterators have left.
use Rattle.std.specs.Prelude.{ℕ, List, map, true}
use Rattle.bgp_prefix.specs.declared.as_number.AsNumber.{AsNumber}
use Rattle.bgp_attr.specs.declared.numbers.AsNumberIter.{AsNumberIter}
use Rattle.bgp_attr.specs.declared.numbers.CommIter.{CommIter}
use Rattle.bgp_attr.specs.Numbers.{numbers_of}
use Rattle.bgp_attr.specs.Path.{as_number}

-- the AS numbers not yet returned
abbrev pub as_numbers_left : AsNumberIter → List AsNumber
as_numbers_left it = map as_number (numbers_of it.wide it.rest.now)

-- the communities not yet returned
abbrev pub communities_left : CommIter → List ℕ
communities_left it = numbers_of true it.rest.now
