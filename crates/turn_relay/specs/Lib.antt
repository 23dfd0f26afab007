pub mod FromClient
pub mod FromPeer
pub mod Laws
pub mod Udp
pub mod Views
