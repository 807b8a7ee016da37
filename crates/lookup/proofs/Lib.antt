pub mod Counts
pub mod Found
pub mod Bucket
pub mod Told
pub mod ByKind
pub mod Picked
pub mod Parts
