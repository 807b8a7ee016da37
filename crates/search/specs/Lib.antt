pub mod Bucket
pub mod inner
