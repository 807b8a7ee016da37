pub mod Group
pub mod LowerBound
pub mod Run
