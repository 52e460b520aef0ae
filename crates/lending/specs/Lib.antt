-- What the static library passes to other languages, as numbers.
pub mod Layout
