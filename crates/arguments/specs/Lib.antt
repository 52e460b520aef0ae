-- The arguments of programs.
pub mod Meaning
