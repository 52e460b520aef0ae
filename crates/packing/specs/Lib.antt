-- What packing asks and promises.
pub mod Packing
