pub mod Unsent
pub mod WindowGrowth
pub mod EndLaws
pub mod Meant
