-- The round trip, proved.
pub mod Holds
