-- The round trip of wave files.
pub mod Claim
