-- Messages: the outcome of each, how it is written, and streams of them.
pub mod Outcome
pub mod OutcomeView
pub mod Written
pub mod Seen
pub mod Decoder
pub mod Look
pub mod Laws
pub mod Prelude
pub mod steps
