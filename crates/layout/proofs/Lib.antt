pub mod Sizes
pub mod Laws
pub mod Accepted
pub mod Parts
pub mod Filled
pub mod Ways
pub mod Seen
pub mod Agree
