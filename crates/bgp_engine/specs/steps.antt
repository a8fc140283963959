-- What only private functions cite: steps of proofs, which no reader has to trust.
pub mod HexDigits
pub mod HexSteps
pub mod Engine
pub mod Blocks
pub mod Pages
pub mod Extends
pub mod Walking
pub mod PageSteps
pub mod Starting
pub mod Cleaning
