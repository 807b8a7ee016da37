pub mod Tables
pub mod Folded
