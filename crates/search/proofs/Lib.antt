pub mod Halves
pub mod Nearby
pub mod Runs
pub mod Groups
pub mod Searches
