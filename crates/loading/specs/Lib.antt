-- Loading a band set.
pub mod Loading
