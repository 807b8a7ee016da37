pub mod Gives
pub mod Tells
