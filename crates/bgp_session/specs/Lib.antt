-- Two sessions that are joined by two pipes: what each move does, and the outcome of a schedule.
pub mod Pair
pub mod World
pub mod Wire
pub mod Sight
pub mod Report
pub mod Laws
pub mod Prelude
pub mod steps
