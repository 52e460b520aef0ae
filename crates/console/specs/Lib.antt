-- What the programs share.
--     Answers   what is said of an answer
--     Reads     what a read brings
pub mod Answers
pub mod Reads
