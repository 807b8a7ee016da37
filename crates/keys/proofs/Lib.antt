pub mod Only
pub mod Laws
pub mod Accepted
pub mod Agree
