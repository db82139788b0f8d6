pub mod Spelling
pub mod Options
pub mod Spelled
pub mod Heard
pub mod HeardLent
pub mod HeardSegments
pub mod Laws
