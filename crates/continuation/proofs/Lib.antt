-- Continuing a list of calls from its sheet.
pub mod Holds
