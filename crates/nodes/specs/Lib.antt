pub mod Node
pub mod Attribute
pub mod Rules
pub mod Decisions
pub mod Order
pub mod OldFold
pub mod inner
