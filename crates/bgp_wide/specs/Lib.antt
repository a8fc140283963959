-- Messages and streams by the terms of a session.
pub mod Outcome
pub mod OutcomeView
pub mod Decoder
pub mod Look
pub mod Without
pub mod Pieces
pub mod Prelude
