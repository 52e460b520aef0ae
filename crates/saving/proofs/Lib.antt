-- Writing strip.new, proved.
pub mod Sheets
