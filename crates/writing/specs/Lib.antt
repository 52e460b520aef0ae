-- Writing the strip sheet.
pub mod Written
