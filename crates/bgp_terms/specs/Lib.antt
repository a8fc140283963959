-- What OPENs offer beyond a context, and what two speakers agree on by them.
pub mod Families
pub mod Paths
pub mod Offers
pub mod Terms
pub mod Prelude
