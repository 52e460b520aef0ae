-- The round trip of the strip sheet.
pub mod Claim
