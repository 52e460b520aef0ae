-- The round trip of wave files, proved.
pub mod Holds
