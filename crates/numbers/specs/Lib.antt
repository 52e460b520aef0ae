-- The unit as flat numbers.
pub mod Layout
