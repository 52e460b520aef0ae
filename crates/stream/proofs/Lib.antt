-- The laws of streams.
--     Cuts     whole frames and tail of bytes that were cut in two
--     Holds    a stream, cut anywhere, is played as one block
pub mod Cuts
pub mod Holds
