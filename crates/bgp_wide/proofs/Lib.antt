pub mod Bases
pub mod Pulls
pub mod Headline
pub mod Without
