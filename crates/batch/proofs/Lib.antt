pub mod Placed
pub mod Zeros
pub mod Told
pub mod Own
pub mod Slots
pub mod Groupwise
