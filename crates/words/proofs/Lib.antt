-- The laws of words.
pub mod Laws
