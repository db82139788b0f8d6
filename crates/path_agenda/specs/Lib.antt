pub mod Words
pub mod Clock
pub mod Agenda
pub mod Weights
pub mod Items
pub mod Laws
