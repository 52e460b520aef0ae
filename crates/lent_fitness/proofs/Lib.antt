-- The laws of the test on numbers.
pub mod Laws
