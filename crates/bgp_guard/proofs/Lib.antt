-- Lemmas on the guard.
pub mod Prelude
pub mod Fronts
pub mod Hears
pub mod Keepalives
pub mod Lanes
pub mod Lives
pub mod Passed
pub mod Ranges
pub mod Reasons
pub mod Sights
pub mod Types
