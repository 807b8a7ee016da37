pub mod Answers
pub mod Questions
pub mod Batches
pub mod Hashes
pub mod Version
pub mod Demands
