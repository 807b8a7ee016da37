pub mod Le
pub mod Floats
