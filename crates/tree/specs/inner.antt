pub mod Children
pub mod Marking
