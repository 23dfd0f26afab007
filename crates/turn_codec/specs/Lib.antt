pub mod Address
pub mod AttributeTypes
pub mod Channel
pub mod Fault
pub mod Grammar
pub mod Prelude
pub mod Reading
pub mod Seen
