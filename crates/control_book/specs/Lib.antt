pub mod Registry
pub mod SameAddress
pub mod Control
pub mod Calls
pub mod Replies
pub mod Steps
pub mod OpeningStays
pub mod Laws
