-- The laws of the unit's flat numbers.
pub mod Put
pub mod Laws
pub mod Units
pub mod Sizes
