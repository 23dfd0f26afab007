pub mod Files
pub mod Processes
