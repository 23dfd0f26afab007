pub mod Names
pub mod Seconds
pub mod Tallies
