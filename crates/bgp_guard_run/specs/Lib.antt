-- What the program does with the octets of a side.
pub mod steps
