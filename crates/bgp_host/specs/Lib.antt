-- What carries out the actions of a session, and the calls that it makes.
pub mod Records
pub mod Deeds
pub mod Turns
pub mod Prelude
pub mod steps
