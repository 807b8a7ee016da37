pub mod Region
pub mod Checks
pub mod Decisions
pub mod inner
