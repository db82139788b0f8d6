mod Results
pub mod Paired
pub mod Driven
pub mod Above
pub mod Gathered
mod JournalsGrown
mod TurnsTaken
mod AtTables
pub mod RoundsWoven
