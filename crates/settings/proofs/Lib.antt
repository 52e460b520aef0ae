-- The laws of what an order asks.
pub mod Laws
