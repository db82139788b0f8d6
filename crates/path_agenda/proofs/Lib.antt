pub mod FirstTold
mod FirstDss
mod Things
mod Ended
mod Done
