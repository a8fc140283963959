-- What the words of the command line request.
pub mod TypeList
pub mod PathList
pub mod CommandLine
pub mod Laws
pub mod Hints
