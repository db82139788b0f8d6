pub mod NothingKnown
pub mod Queued
pub mod HmacsAgree
pub mod Wanted
pub mod ToBeNoted
pub mod LookThenNote
pub mod SaidAsNoted
pub mod AsTold
