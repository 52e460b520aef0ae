-- The engine: whole numbers as floats, the flat layout, and a frame of two sides.
pub mod Floats
pub mod Layout
pub mod Frame
