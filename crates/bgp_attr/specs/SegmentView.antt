-- The value of a borrowed segment.
use Rattle.std.specs.Prelude.{Bool}
use Rattle.bgp_attr.specs.declared.segment.RawSegment.{RawSegment}
use Rattle.bgp_attr.specs.Numbers.{numbers_of}
use Rattle.bgp_attr.specs.Path.{WireSegment}

-- its type, and the numbers in its octets
abbrev pub wire_segment : Bool → RawSegment → WireSegment
wire_segment wide s = record { code = s.code; numbers = numbers_of wide s.numbers.now }
