-- The fields of a message.
pub mod Walk
pub mod Parts
pub mod Fields
pub mod FieldIter
pub mod Laws
pub mod Shown
pub mod Places
pub mod Causes
pub mod PathPlaces
pub mod Prelude
pub mod steps
