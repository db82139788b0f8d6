pub mod Ordering
pub mod Empty
pub mod Lists
pub mod Pieces
