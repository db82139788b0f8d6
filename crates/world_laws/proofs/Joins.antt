pub mod Asleep
pub mod Roles
pub mod AwakeAfterBegun
pub mod AnsweredAfterBegun
pub mod TokensAgree
pub mod Welcome
pub mod NoBytesBeforeClear
pub mod OverOctets
