-- Writing strip.new.
pub mod Saved
