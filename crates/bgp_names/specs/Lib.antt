-- Names of the registries.
pub mod Names
pub mod Attributes
pub mod Capabilities
pub mod Families
pub mod Messages
pub mod Errors
