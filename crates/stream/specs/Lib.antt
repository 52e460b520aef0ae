-- Playing a stream.
--     Advance   one piece of it
--     Claim     that a stream, cut anywhere, is played as one block
pub mod Advance
pub mod Claim
