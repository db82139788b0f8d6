mod HeaderSum
mod Joined
mod Lengths
mod ReadAgain
