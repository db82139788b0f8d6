pub mod Faults
pub mod Pipe
pub mod Runs
