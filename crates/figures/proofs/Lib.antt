-- The figures hold.
pub mod Hold
