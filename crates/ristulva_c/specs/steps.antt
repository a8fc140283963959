-- What only private functions cite: steps of proofs, which no reader has to trust.
pub mod LeftOut
pub mod RouteList
pub mod OriginAs
pub mod Agree
pub mod Terms
pub mod JudgeIn
pub mod JudgePaths
pub mod Refresh
pub mod Paths
pub mod Batch
pub mod RouteRows
pub mod NumberRows
