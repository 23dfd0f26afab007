pub mod Wire
pub mod Requests
pub mod Handshake
pub mod Views
pub mod Names
