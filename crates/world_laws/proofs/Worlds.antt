pub mod Carrying
pub mod Settled
pub mod Casts
pub mod Steady
pub mod Finding
pub mod Opened
pub mod CastLifting
pub mod Turns
