pub mod GoesOn
pub mod Behind
pub mod Ends
pub mod Summed
pub mod Brings
pub mod Acknowledges
pub mod Tells
pub mod Laws
