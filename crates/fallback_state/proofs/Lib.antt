pub mod Steps
pub mod AfterAll
