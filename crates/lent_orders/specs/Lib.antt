-- Where the targets stand among a unit's numbers.
pub mod Places
