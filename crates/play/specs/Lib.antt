-- The play program.
--     Passes   a pass of frames
--     Waves    a pass of a wave file
pub mod Passes
pub mod Waves
