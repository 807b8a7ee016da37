pub mod Chain
pub mod File
pub mod Rules
pub mod Decisions
pub mod Order
pub mod Marks
pub mod Outcome
pub mod inner
