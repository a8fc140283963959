-- What only private definitions cite: steps of proofs, which nobody has to trust.
pub mod AreTypes
