pub mod Growing
pub mod Lives
pub mod Plays
pub mod Repeats
pub mod Worlds
pub mod Versions
