-- Blocks on lent numbers.
pub mod Play
