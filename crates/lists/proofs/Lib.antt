-- The laws of lists.
--     Each       what holds of every entry, and a test of it
--     Loops      loops that test every entry of a list, or fill it
--     Tabulate   lists by their entries
--     Changed    lists with some entries changed
--     Parts      some entries from a place on
--     Joined     lists one behind the other
--     Stores     runs of stores, one behind the other
pub mod Each
pub mod Loops
pub mod Tabulate
pub mod Changed
pub mod Parts
pub mod Joined
pub mod Stores
