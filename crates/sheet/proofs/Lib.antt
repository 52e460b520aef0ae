-- The laws of the strip sheet.
--     Lines   each kind of line reads back and is written again
--     Sides   so do a side and the unit: what is fit, and nothing else
--     Sizes   how many bytes a sheet has
pub mod Lines
pub mod Sides
pub mod Sizes
