-- What a level order asks.
pub mod Settings
