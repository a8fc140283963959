-- Definitions that only private functions cite: steps of proofs, which nobody has to trust.
pub mod Heads
pub mod Listing
pub mod Plans
pub mod Sections
