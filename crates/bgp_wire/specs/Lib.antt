-- What any binary format is defined by: rows of spellings, and readers of them.
pub mod Octets
pub mod Row
pub mod Then
pub mod Reader
pub mod Behind
pub mod OctetSet
pub mod Prelude
pub mod steps
