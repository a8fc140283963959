-- What only private functions cite: steps of proofs, which no reader has to trust.
pub mod Room
pub mod Early
pub mod Decoding
