pub mod Header
pub mod Table
pub mod Edition
pub mod Layout
pub mod inner
