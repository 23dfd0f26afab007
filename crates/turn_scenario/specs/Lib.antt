pub mod Faults
pub mod Lived
pub mod Tokens
