-- The laws of lists of level orders.
pub mod Laws
