-- Reading the strip sheet.
pub mod Reading
pub mod Parts
