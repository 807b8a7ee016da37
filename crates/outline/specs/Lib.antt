pub mod Outline
pub mod Outlined
pub mod Lined
pub mod inner
