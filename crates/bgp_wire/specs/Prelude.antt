-- Re-exports the names that other crates and the proofs cite. Declares nothing.
pub use Rattle.bgp_wire.specs.Octets.{AreOctets}
pub use Rattle.bgp_wire.specs.Row.{IsPrefixFree, Row, Splits}
pub use Rattle.bgp_wire.specs.Then.{when, ◌>>=◌}
pub use Rattle.bgp_wire.specs.Reader.{Reads, pieces_within, then_pieces}
unfoldable pub use Rattle.bgp_wire.specs.Reader.{pieces}
pub use Rattle.bgp_wire.specs.Behind.{BehindCount, BehindLength, first_octets}
unfoldable pub use Rattle.bgp_wire.specs.Behind.{behind_count, behind_length}
pub use Rattle.bgp_wire.specs.OctetSet.{all_but, also, has_octet, none_of_them}
pub use Rattle.bgp_wire.specs.steps.Output.{Extends}
