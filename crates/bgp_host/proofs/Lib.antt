pub mod Prelude
pub mod Records
pub mod Deeds
pub mod Turns
pub mod Quiet
pub mod Pulls
