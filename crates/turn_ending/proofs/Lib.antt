pub mod Calls
pub mod Deletions
