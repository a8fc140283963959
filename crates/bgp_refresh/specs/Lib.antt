-- ROUTE-REFRESH.
pub mod Refresh
pub mod Fault
pub mod Prelude
