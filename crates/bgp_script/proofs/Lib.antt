pub mod Cuts
pub mod Digits
pub mod Telling
pub mod MoveLines
pub mod NoteLists
pub mod Decimals
pub mod FirstFaults
