pub mod Causes
pub mod Counting
pub mod Lines
pub mod Logged
pub mod Names
pub mod Tallies
