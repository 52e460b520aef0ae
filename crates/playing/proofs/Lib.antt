-- Playing, proved.
pub mod Turns
