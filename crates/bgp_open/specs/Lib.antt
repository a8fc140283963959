-- The OPEN, its capabilities, and what two speakers agree on.
pub mod Capability
pub mod CapabilityView
pub mod Parameter
pub mod Open
pub mod OpenFault
pub mod OpenView
pub mod CapabilityIter
pub mod Config
pub mod Own
pub mod Peer
pub mod Agreement
pub mod Agreed
pub mod Paths
pub mod Written
pub mod Prelude
