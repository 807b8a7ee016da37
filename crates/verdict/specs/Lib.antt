pub mod Verdict
pub mod Message
pub mod Checks
pub mod Decide
pub mod inner
