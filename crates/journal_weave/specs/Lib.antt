pub mod Weaving
pub mod Laws
pub mod Journals
pub mod Rounds
