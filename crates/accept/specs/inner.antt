pub mod Accepted
pub mod Held
