pub mod RowsEquality
pub mod Fractions
pub mod Leading
pub mod Sums
pub mod Rounding
pub mod Exactness
pub mod Closeness
