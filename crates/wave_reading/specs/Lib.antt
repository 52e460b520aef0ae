-- Reading a wave file.
--     Walk       the chunks, up to the data
--     Reading    the data, and the verdict
--     Examples   what is found in small files
pub mod Walk
pub mod Reading
pub mod Examples
