-- The laws of blocks.
--     Block    what an accepted block has shown
--     Packed   an accepted unit held as floats
--     Append   a block of a ++ b is the block of a and then the block of b
--     Read     one channel of a block: its words, and its samples from the bytes
pub mod Block
pub mod Packed
pub mod Append
pub mod Read
