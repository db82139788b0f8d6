pub mod Names
pub mod ReadOn
mod AlterLines
mod Unaltered
pub mod Adding
pub mod Heard
pub mod Found
mod TokensShown
mod PathsNamed
pub mod JoinsAsked
mod ArrivalsLent
pub mod JoinsFound
mod Held
mod Turned
mod Home
mod Holders
mod Placed
mod Changing
mod Isolation
mod RoundMore
mod Changes
mod LinesPut
mod CallsMade
mod EndsRight
mod LoadsMade
mod OwnTokens
mod Admitted
mod RunEnds
mod ValidLists
