-- Lemmas on cleaned messages and streams.
pub mod Prelude
pub mod CleanedOpens
pub mod Dropped
pub mod Ends
pub mod PartSlots
pub mod Lessons
pub mod HeldAttributes
pub mod Withdrawals
pub mod Announcing
pub mod Parting
pub mod Wholes
pub mod Handed
pub mod Streams
pub mod Understood
pub mod Withdrawing
pub mod Outcomes
pub mod Wides
