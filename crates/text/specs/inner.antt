pub mod Fingerprint
pub mod Measure
pub mod Zeros
