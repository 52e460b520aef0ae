-- Playing standard input to standard output.
pub mod Turns
