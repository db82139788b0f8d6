mod AcksTaken
pub mod Ranking
pub mod Resting
pub mod Joined
pub mod Passed
pub mod Fair
pub mod Meanings
pub mod Judgements
pub mod Mapped
pub mod Filling
pub mod FewThings
pub mod Sendings
pub mod Handshakes
pub mod Happening
pub mod Fallen
pub mod Lowering
pub mod TurnEnds
pub mod FarResets
mod ChangedCopies
mod Thirds
pub mod CopiesRead
pub mod Showing
pub mod Sayable
pub mod SegmentsTold
mod Grants
mod PathTurns
mod InBounds
mod Settling
mod FirstDuty
mod LinesOf
mod Words
pub mod Pieces
