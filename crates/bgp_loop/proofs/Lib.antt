-- Lemmas of traced runs.
pub mod Wholes
pub mod Traces
