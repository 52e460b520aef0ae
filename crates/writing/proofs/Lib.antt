-- The laws of a written sheet.
--     Typed    a unit by value has the shape
--     Filled   the buffer after a writing, and the part that is handed back
pub mod Typed
pub mod Filled
