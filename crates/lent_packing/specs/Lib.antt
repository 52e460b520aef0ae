-- What is asked of lent numbers, and of floats that are stored as such, and what they then are.
pub mod Runs
pub mod Store
