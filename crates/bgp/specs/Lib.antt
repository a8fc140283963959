-- What the program does with its command line.
pub mod Command
