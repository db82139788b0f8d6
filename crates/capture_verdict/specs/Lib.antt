pub mod Judging
pub mod Totals
pub mod Order
pub mod Sent
pub mod Ending
pub mod Report
