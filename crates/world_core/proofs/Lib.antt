mod Lists
mod AsValues
mod Showing
mod StepMade
mod AtBooks
mod Reported
mod Ending
mod Opening
mod CutMade
pub mod RoundsMade
pub mod Gathering
pub mod SinceRound
pub mod InRound
pub mod Clocks
pub mod TimedRounds
