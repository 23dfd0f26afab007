pub mod Rules
pub mod Called
pub mod Listening
