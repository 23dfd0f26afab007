pub mod Addresses
pub mod Fair
pub mod Finding
pub mod Listened
pub mod Listing
pub mod Waiting
