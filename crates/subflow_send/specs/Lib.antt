pub mod Sendings
pub mod Records
pub mod Rules
pub mod Pieces
pub mod Laws
