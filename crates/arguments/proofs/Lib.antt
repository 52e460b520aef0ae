-- The laws of arguments.
--     Right   bytes at the right end of others
pub mod Right
