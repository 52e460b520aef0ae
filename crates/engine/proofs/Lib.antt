-- The laws of the engine, in the order in which one module uses another.
--     Carry    floats that carry whole numbers: limiting, the flag, and what is read back
--     Sum      S in floats is whole and below 2^53
--     Store    what a store changes in a list of floats
--     Read     bands and channels by the floats at their places
--     Turns    one side's part in a frame, turn by turn
--     Pair     a frame of both sides
pub mod Carry
mod Sum
pub mod Store
pub mod Read
pub mod Turns
mod Pair
