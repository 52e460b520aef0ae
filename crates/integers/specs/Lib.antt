-- What the laws of the integers speak of beside the library's definitions.
pub mod Signed
