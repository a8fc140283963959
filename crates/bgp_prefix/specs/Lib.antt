-- IPv4 and IPv6 prefixes, and runs of them.
pub mod Bits
pub mod Prefix
pub mod Order
pub mod Run
pub mod PrefixIter
pub mod Text
pub mod Prelude
pub mod steps
