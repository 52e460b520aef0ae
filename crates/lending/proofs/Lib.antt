-- The laws of the static library's layout.
pub mod Laws
pub mod Sheets
