pub mod Lives
pub mod Refusals
