pub mod AppEnds
pub mod Asking
pub mod Written
pub mod OnTime
