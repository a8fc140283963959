-- Re-exports the names that other crates and the proofs cite. Declares nothing.
pub use Rattle.bgp_prefix.specs.Bits.{HasNoBitPast, bit_of, leading_bits, octets_for}
unfoldable pub use Rattle.bgp_prefix.specs.Bits.{address_of, first_bits}
pub use Rattle.bgp_prefix.specs.Prefix.{HasFirstBits, IsPrefix, IsValid, PrefixValue, prefix_of}
unfoldable pub use Rattle.bgp_prefix.specs.Prefix.{one_prefix, spelling_of}
pub use Rattle.bgp_prefix.specs.Run.{IsReading, fault_at, run_fault, run_of}
pub use Rattle.bgp_prefix.specs.PrefixIter.{prefixes_left}
pub use Rattle.bgp_prefix.specs.Text.{group_text, groups_text, hex_octet, ipv4_text, ipv6_text}
unfoldable pub use Rattle.bgp_prefix.specs.Text.{ipv4_address_text, ipv6_address_text}
unfoldable pub use Rattle.bgp_prefix.specs.steps.Mask.{mask_of}
