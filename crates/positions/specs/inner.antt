pub mod Packed
pub mod Total
