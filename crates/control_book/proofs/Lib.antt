pub mod Kept
pub mod RowsRight
