pub mod Doubts
pub mod Held
pub mod Noted
pub mod Search
