-- Writing a wave file.
pub mod Writing
