pub mod Command
pub mod Table
pub mod Read
