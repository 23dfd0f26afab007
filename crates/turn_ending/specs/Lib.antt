pub mod Chosen
pub mod Ends
