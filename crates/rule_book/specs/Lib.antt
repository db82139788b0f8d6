pub mod State
pub mod Facts
pub mod Signals
pub mod Keyed
pub mod Stream
pub mod Judged
