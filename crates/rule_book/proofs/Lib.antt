pub mod Last
pub mod Growing
pub mod Steps
