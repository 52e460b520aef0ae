-- Reading a field.
pub mod Scan
