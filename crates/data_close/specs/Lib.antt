pub mod DataFin
pub mod Closing
pub mod Said
