pub mod Addresses
pub mod Keys
pub mod Numbers
pub mod Passwords
pub mod Splits
pub mod Words
