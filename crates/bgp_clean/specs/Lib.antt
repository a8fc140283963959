-- Cleaned messages and streams: what is passed on, and what a receiver learns from it.
pub mod Opens
pub mod Updates
pub mod NextHops
pub mod Limits
pub mod Clean
pub mod Cleaned
pub mod Wide
pub mod Lesson
pub mod Stream
pub mod Laws
pub mod Prelude
pub mod steps
