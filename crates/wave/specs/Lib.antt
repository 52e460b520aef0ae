-- RIFF/WAVE files: sizes, names, and numbers in bytes.
pub mod Chunks
