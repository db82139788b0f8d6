pub mod Window
pub mod ByPosition
