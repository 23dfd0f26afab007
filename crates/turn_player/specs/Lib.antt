pub mod Held
pub mod Laws
pub mod Lives
pub mod Plays
pub mod Repeats
pub mod Worlds
pub mod Versions
