pub mod Passing
pub mod InPieces
pub mod Replies
pub mod Filled
pub mod Schemes
mod Durable
