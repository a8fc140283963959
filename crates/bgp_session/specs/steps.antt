-- What only private functions cite: steps of proofs, which no reader has to trust.
pub mod Feeding
pub mod Playing
