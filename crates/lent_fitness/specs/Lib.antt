-- The definitions are those of the crates unit and numbers, and the test of a remainder.
pub mod Remainders
