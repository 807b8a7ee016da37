pub mod Laws
pub mod Accepted
pub mod Samples
pub mod Agree
