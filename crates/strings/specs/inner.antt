pub mod Ahead
pub mod Apart
pub mod Begins
pub mod Held
pub mod Lent
