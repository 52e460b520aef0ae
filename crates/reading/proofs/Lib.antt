-- The laws of reading the strip sheet.
--     Lines    the lines of a sheet, and no byte more
--     Laws     the answer where a sheet is accepted and where it is refused
pub mod Lines
pub mod Laws
