pub mod Received
pub mod Sending
