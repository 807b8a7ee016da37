pub mod Counting
pub mod Halving
pub mod inner
