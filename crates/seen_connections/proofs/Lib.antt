pub mod FlowsBetween
pub mod Items
pub mod FirstTold
pub mod Counts
pub mod Last
