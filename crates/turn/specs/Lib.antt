pub use Rattle.turn_cred.specs.Credential
pub use Rattle.turn_disk.specs.Counts
pub use Rattle.turn_disk.specs.Disk
pub use Rattle.turn_mac.specs.Hmac
pub use Rattle.turn_ports.specs.Ports
