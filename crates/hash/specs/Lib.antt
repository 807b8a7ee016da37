pub mod Table
pub mod Hash
pub mod Fold
pub mod Parts
pub mod OldFold
pub mod inner
