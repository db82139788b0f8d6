pub mod AckOutDuties
pub mod NeitherWritesNorCloses
pub mod AckOutBeforeSending
pub mod OfPaths
pub mod SendBooks
