-- The laws of orders on numbers.
--     Stored     what one number that is stored changes of a channel, and of the bands
--     Aimed      a target that is stored is set in the unit that the numbers stand for
pub mod Stored
pub mod Aimed
