-- Blocks of frames.
pub mod Block
pub mod Run
