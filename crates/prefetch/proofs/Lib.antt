pub mod Doubting
pub mod Taking
pub mod Filling
pub mod Rights
