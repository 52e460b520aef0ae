-- The starred figures.
pub mod Figures
