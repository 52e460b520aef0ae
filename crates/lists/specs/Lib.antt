-- Lists by their entries.
pub mod Lists
