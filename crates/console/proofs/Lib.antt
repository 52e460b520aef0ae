-- The laws of reading.
--     Pieces   bytes that a read puts behind others
--     Digits   a number in decimal digits
pub mod Pieces
pub mod Digits
