pub mod Asking
pub mod Cutting
pub mod Deaths
pub mod Telling
pub mod Views
