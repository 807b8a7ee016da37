pub mod Laws
pub mod Numbered
pub mod Enough
pub mod CountedBelow
pub mod Ranks
