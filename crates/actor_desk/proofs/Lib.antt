pub mod Falling
pub mod InKind
pub mod Small
pub mod Entered
pub mod Inserting
mod Merging
mod LastNote
