pub mod Area
pub mod Frames
pub mod Laws
pub mod Layout
pub mod Scan
