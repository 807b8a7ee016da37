pub mod Batch
pub mod Examined
pub mod Slots
