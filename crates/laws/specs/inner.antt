pub mod Halfway
pub mod Lists
