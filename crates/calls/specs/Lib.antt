-- A list of calls.
pub mod Calls
