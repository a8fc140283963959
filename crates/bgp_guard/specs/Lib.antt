-- The guard between two speakers: what it keeps, and what each event does.
pub mod Guard
pub mod Halves
pub mod Place
pub mod Answers
pub mod Hearing
pub mod Events
pub mod Came
pub mod Life
pub mod Laws
pub mod Prelude
pub mod steps
