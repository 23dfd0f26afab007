pub mod Hmac
pub mod Crc
pub mod Integrity
pub mod Register
pub mod CrcState
pub mod Fingerprint
