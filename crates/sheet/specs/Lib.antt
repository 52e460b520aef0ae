-- The strip sheet.
pub mod Lines
pub mod Sheet
