-- Bytes stored right behind others, and the size of a remainder.
pub mod Runs
