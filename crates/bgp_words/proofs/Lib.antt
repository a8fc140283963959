pub mod Prelude
pub mod TypeLists
pub mod CommandLines
pub mod Flags
pub mod LeftOut
