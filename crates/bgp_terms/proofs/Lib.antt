pub mod KeptFamilies
pub mod Offerings
pub mod Hops
pub mod Agreements
pub mod Roles
