-- The floating preview of a section.
pub mod Preview
pub mod Carried
