-- Frames of sound.
pub mod Bytes
pub mod Played
pub mod Column
pub mod Run
