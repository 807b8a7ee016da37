pub mod Scanned
pub mod View
