pub mod Device
pub mod Passing
pub mod Since
pub mod Standing
mod Pieces
pub mod Replaced
mod Recorded
mod Crashes
