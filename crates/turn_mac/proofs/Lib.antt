pub mod Values
pub mod Bits
pub mod Division
pub mod Table
pub mod Appended
pub mod FrontBytes
pub mod Remainder
pub mod Decided
