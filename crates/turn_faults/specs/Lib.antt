pub mod Checks
pub mod Faults
pub mod Places
pub mod Status
