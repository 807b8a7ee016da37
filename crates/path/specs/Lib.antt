pub mod Names
pub mod Matches
pub mod Listing
pub mod inner
