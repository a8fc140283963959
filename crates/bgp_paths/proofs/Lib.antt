-- Path identifiers.
pub mod Routes
pub mod PathRoutes
pub mod Lengths
pub mod Same
pub mod PathBack
