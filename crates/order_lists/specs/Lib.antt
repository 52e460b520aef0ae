-- Lists of level orders.
pub mod Lists
