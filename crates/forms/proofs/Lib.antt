-- The laws of forms.
--     Sound   what is written reads back and what is accepted is written again, for each way of putting forms together
--     Line    so it is of a line
--     Texts   texts one behind the other, written by a loop
--     Turns   entries one behind the other, read by a loop
pub mod Sound
pub mod Line
pub mod Texts
pub mod Turns
