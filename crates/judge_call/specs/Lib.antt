pub mod Status
pub mod Words
pub mod Streams
pub mod Plan
pub mod Answers
