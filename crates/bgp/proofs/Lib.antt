pub mod WideRequests
pub mod Flags
