-- Definitions that only private functions cite: steps of proofs, which nobody has to trust.
pub mod Small
pub mod Others
pub mod Failed
pub mod ToldSlot
pub mod SortedOthers
pub mod Layout
pub mod Progress
pub mod RoutesView
