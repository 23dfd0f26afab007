pub mod Answer
pub mod Data
pub mod Holding
pub mod Laws
pub mod Outcome
pub mod Prelude
pub mod State
pub mod Views
