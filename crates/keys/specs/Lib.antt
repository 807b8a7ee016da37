pub mod Names
pub mod Keys
pub mod Decisions
pub mod Order
pub mod inner
