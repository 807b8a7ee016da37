pub mod Nan
pub mod Four
pub mod Numbers
pub mod Agree
pub mod Series
