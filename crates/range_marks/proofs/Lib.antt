pub mod SideBySide
pub mod Told
pub mod Cutting
pub mod Parts
pub mod MarkLaws
