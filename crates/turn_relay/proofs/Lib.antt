pub mod Datagrams
pub mod Holders
pub mod Sent
