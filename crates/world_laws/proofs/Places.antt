pub mod GrantedOnce
pub mod StepsKeep
pub mod Sent
pub mod UntouchedTillAsked
pub mod Known
pub mod Agree
