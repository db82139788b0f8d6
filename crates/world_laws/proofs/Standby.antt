pub mod OneDutyLooks
pub mod LooksAlone
pub mod GrantedNothing
