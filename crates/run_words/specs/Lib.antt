pub mod Parts
pub mod Numbers
pub mod Lines
pub mod Form
