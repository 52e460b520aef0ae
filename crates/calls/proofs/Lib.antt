-- The laws of a list of calls.
--     Kept     every call, and so every list, keeps a unit fit and of its shape
--     Append   what two lists give one after the other, the joined list gives
pub mod Kept
pub mod Append
