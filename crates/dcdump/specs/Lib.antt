pub mod Messages
pub mod Output
pub mod inner
