-- Reading a line.
pub mod Gives
