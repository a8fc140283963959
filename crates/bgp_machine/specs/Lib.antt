-- One session of BGP-4: its state, what each event and each message does, and what follows for whole lives.
pub mod ActionView
pub mod Cutting
pub mod Heard
pub mod Life
pub mod Look
pub mod Pulling
pub mod Run
pub mod Sending
pub mod Session
pub mod Standing
pub mod Table
pub mod Prelude
pub mod steps
