-- A script that is run, and what is written of it.
pub mod Trace
pub mod Loop
pub mod Carried
pub mod steps
