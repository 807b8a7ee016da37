pub mod Rule
pub mod Linear
pub mod Ranges
pub mod Laws
pub mod Lent
pub mod Halves
pub mod Parts
pub mod OldFold
