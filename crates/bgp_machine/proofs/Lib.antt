-- Lemmas of the session.
pub mod Prelude
pub mod Cuttings
pub mod Steppings
pub mod Hearings
pub mod Lives
pub mod Looks
pub mod Sendings
pub mod Sent
pub mod Widened
