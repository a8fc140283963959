-- Definitions that only private functions cite: steps of proofs, which nobody has to trust.
pub mod LengthField
