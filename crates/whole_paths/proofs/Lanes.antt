pub mod Awaiting
pub mod Ending
pub mod Fining
pub mod Lists
pub mod Rowing
pub mod Sounding
