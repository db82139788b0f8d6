pub mod InOrder
pub mod Missing
