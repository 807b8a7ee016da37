pub mod Answer
pub mod Indices
pub mod Written
