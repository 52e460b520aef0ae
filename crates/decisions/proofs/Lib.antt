-- The laws of what the programs decide.
--     Orders   one order to a sheet
pub mod Orders
