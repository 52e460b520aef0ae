-- What the programs decide.
pub mod Decisions
